use Rattle.std.proofs.Common.{◌≡◌, ◌↔◌, length, drop}
use Rattle.upc_verify_orders.specs.code.Values.{ReadsHeld}
use Rattle.upc_verify_orders.proofs.values.reads_held.Given as goal

abbrev pub invariant-loop-access : goal.invariant-loop-access
invariant-loop-access l = record {
  many : length l.held ≡ length l.fn.held;
  reads : ReadsHeld l.held (drop l.access-index l.order) ↔ ReadsHeld l.fn.held l.order;
}
