use Rattle.std.proofs.Common.{◌≡◌, ◌++◌}
use Rattle.upc_verify_stalls.specs.code.Watches.{AreDue}
use Rattle.upc_verify_stalls.proofs.walk.walk.Given as goal

-- the memory has the history so far
abbrev pub invariant-loop-entry : goal.invariant-loop-entry
invariant-loop-entry l = record {
  parts : l.world.1 ++ l.entry-iterator ≡ l.history;
  opening : l.world.0 ≡ l.fn.world.0;
  due : AreDue l.world.0 l.points l.world.1 l.watches;
}
