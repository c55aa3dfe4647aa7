use Rattle.std.proofs.Common.{◌≡◌}
use Rattle.upc_verify_orders.specs.code.Below.{operations_below}
use Rattle.upc_verify_orders.proofs.accesses.operations_of.Given as goal

abbrev pub invariant-loop-thread : goal.invariant-loop-thread
invariant-loop-thread l = l.list.items ≡ operations_below l.journal l.thread
