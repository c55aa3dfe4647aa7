use Rattle.std.proofs.Common.{map, ap, ◌∙◌}
use Rattle.upc_values.specs.Orders.{name_of}
use Rattle.upc_values.specs.Orders as said
use Rattle.order_builder.specs.declared.part.Part.TheVariants.{Whole}
use Rattle.order_builder.specs.code.Parts.{order_of}
use Rattle.order_builder.proofs.Choosing.{if_ok-same, whole-is}
use Rattle.order_builder.proofs.order.global_order.Goals as goal

pub returns : goal.returns
returns c =
    let os = said.global_order c.args.journal.now in
    if_ok-same c.order_of.result (order_of Whole c.as_slice.result.now) (map name_of os)
    (ap (order_of Whole) (c.as_slice.ensures ∙ c.in_ok-names.ensures) ∙ whole-is os) c.order_of.ensures
