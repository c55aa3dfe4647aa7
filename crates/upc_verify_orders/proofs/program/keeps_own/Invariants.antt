use Rattle.std.proofs.Common.{◌≡◌, ◌↔◌, length, drop}
use Rattle.upc_values.specs.Lists.{Pairwise}
use Rattle.upc_verify_orders.specs.code.Program.{InOrder}
use Rattle.upc_verify_orders.proofs.Owns.{Keeps}
use Rattle.upc_verify_orders.proofs.program.keeps_own.Given as goal

abbrev pub invariant-loop-mark : goal.invariant-loop-mark
invariant-loop-mark l = record {
  any : length l.passed.any ≡ l.places;
  wrote : length l.passed.wrote ≡ l.places;
  keeps : Keeps l.passed (drop l.mark-index l.marks) ↔ Pairwise InOrder l.marks;
}
