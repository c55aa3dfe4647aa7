use Rattle.std.proofs.Common.{◌≡◌, ◌≤◌, ◌+◌, drop}
use Rattle.upc_values.specs.Records.{beats}
use Rattle.upc_verify_parts.proofs.record.beats.Given as goal

-- the Beats so far, and those among the actions that are left
abbrev pub invariant-loop-action : goal.invariant-loop-action
invariant-loop-action l = record {
  counted : beats (drop l.action-index l.actions) + l.count ≡ beats l.actions;
  few : l.count ≤ l.action-index;
}
