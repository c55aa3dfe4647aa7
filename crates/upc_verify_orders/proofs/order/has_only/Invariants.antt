use Rattle.std.proofs.Common.{◌≡◌, ◌↔◌, drop, get_or, true}
use Rattle.upc_values.specs.Lists.{Each}
use Rattle.upc_verify_orders.specs.layer.Parts.{is_in}
use Rattle.upc_verify_orders.specs.code.Found.{nothing}
use Rattle.upc_verify_orders.proofs.order.has_only.Given as goal

abbrev pub invariant-loop-number : goal.invariant-loop-number
invariant-loop-number l =
    Each (λ i. is_in l.part (get_or l.operations i nothing) ≡ true) (drop l.number-index l.at)
    ↔ Each (λ i. is_in l.part (get_or l.operations i nothing) ≡ true) l.at
