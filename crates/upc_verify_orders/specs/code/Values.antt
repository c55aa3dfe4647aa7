-- What the places hold on the way over an order.
use Rattle.std.specs.Prelude.{ℕ, ◌≡◌, false, cond, List, [], ◌∷◌, slice_index_or, slice_set}
use Rattle.upc_values.specs.declared.scalar.Scalar.{Scalar}
use Rattle.upc_values.specs.Scalars.{zero}
use Rattle.upc_values.specs.Operations.{Operation, Place}
use Rattle.upc_verify_orders.specs.declared.values.Access.{Access}

-- What the places hold after one more.
abbrev pub held_after : List Scalar → Access → List Scalar
held_after held o = cond o.write (slice_set held o.place o.value) held

-- Each read has what its place holds.
abbrev pub ReadsHeld : List Scalar → List Access → Type 0
ReadsHeld held [] = Unit {0}
ReadsHeld held (o ∷ os) =
    (o.write ≡ false → o.value ≡ slice_index_or held o.place zero) × ReadsHeld (held_after held o) os

-- An operation by the number of its place.
abbrev pub access_by : (Place → ℕ) → Operation → Access
access_by number o = record { write = o.write; place = number o.place; value = o.value }
