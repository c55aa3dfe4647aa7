use Rattle.std.proofs.Common.{◌∙◌}
use Rattle.order_builder.proofs.Choosing.{orders-is}
use Rattle.order_builder.proofs.order.orders.Goals as goal

pub returns : goal.returns
returns c =
    orders-is c.args.journal.now c.in_ok-order_of.field-0 c.in_ok-thread_orders.field-0 c.as_slice.result.now
    c.as_slice-2.result.now c.in_ok-order_of.ensures (c.as_slice.ensures ∙ c.in_ok-names.ensures)
    c.in_ok-thread_orders.ensures (c.as_slice-2.ensures ∙ c.in_ok-names.ensures)
