use Rattle.std.proofs.Common.{◌≡◌, ◌<◌, ℕ, [], get_or}
use Rattle.block_layout.specs.declared.place.Loc.{Loc}
use Rattle.upc_values.specs.declared.scalar.Scalar.{Scalar}
use Rattle.upc_verify_orders.specs.layer.Numbers.{firsts_in}
use Rattle.upc_verify_orders.specs.code.Orders.{IsOrderFound}
use Rattle.upc_verify_orders.proofs.verdict.first_broken.Given as goal

abbrev pub invariant-loop-thread : goal.invariant-loop-thread
invariant-loop-thread l =
    (initial : Loc → Scalar) → l.firsts ≡ firsts_in initial l.known.operations.items → (t : ℕ) → t < l.thread
    → IsOrderFound initial l.known.operations.items l.strict t (get_or l.orders t [])
