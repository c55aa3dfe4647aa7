use Rattle.std.proofs.Common.{◌≡◌, ◌++◌}
use Rattle.upc_verify_history.proofs.history.is_lawful.Given as goal

-- the memory has the history so far
abbrev pub invariant-loop-entry : goal.invariant-loop-entry
invariant-loop-entry l = record {
  parts : l.world.1 ++ l.entry-iterator ≡ l.history;
  opening : l.world.0 ≡ l.fn.world.0;
}
