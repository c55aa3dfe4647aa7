use Rattle.std.proofs.Common.{map, ap, ◌∙◌}
use Rattle.upc_values.specs.Orders.{name_of}
use Rattle.upc_values.specs.Orders as said
use Rattle.order_builder.specs.declared.part.Part.TheVariants.{Shown}
use Rattle.order_builder.specs.code.Parts.{order_of}
use Rattle.order_builder.proofs.Choosing.{if_ok-same, shown-is}
use Rattle.order_builder.proofs.order.thread_order.Goals as goal

pub returns : goal.returns
returns c =
    let j = c.args.journal.now in
    let t = c.args.thread in
    if_ok-same c.order_of.result (order_of (Shown t) c.as_slice.result.now) (map name_of (said.thread_order j t))
    (ap (order_of (Shown t)) (c.as_slice.ensures ∙ c.in_ok-names.ensures) ∙ shown-is t (said.global_order j)) c.order_of.ensures
