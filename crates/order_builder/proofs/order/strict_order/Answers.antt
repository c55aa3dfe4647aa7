use Rattle.std.proofs.Common.{map, ap, ◌∙◌}
use Rattle.upc_values.specs.Orders.{name_of, strict_list}
use Rattle.upc_values.specs.Orders as said
use Rattle.order_builder.specs.declared.part.Part.TheVariants.{Strict}
use Rattle.order_builder.specs.code.Parts.{order_of}
use Rattle.order_builder.proofs.Choosing.{if_ok-same, strict-is}
use Rattle.order_builder.proofs.order.strict_order.Goals as goal

pub returns : goal.returns
returns c =
    let j = c.args.journal.now in
    if_ok-same c.order_of.result (order_of Strict c.as_slice.result.now) (map name_of (strict_list j))
    (ap (order_of Strict) (c.as_slice.ensures ∙ c.in_ok-names.ensures) ∙ strict-is (said.global_order j)) c.order_of.ensures
