use Rattle.std.proofs.Common.{◌≡◌, ◌<◌, ℕ, get_or, true, false}
use Rattle.upc_verify_orders.specs.layer.Parts.{is_in}
use Rattle.upc_verify_orders.specs.code.Found.{nothing}
use Rattle.upc_verify_orders.proofs.order.has_all.Given as goal

abbrev pub invariant-loop-i : goal.invariant-loop-i
invariant-loop-i l =
    (k : ℕ) → k < l.i → is_in l.part (get_or l.operations k nothing) ≡ true → get_or l.marks k false ≡ true
