use Rattle.std.proofs.Common.{◌≡◌}
use Rattle.order_builder.specs.code.Parts.{shown_below}
use Rattle.order_builder.proofs.order.thread_orders.Given as goal

abbrev pub invariant-loop-thread : goal.invariant-loop-thread
invariant-loop-thread l = l.orders.items ≡ shown_below l.names l.thread
