-- Numbers of places: that of the first operation there.
use Rattle.std.specs.Prelude.{ℕ, ◌≡◌, ◌+◌, cond, List, [], ◌∷◌, map, Option, Some, None, filter, ◌==◌}
use Rattle.std.specs.Option.{unwrap_or}
use Rattle.block_layout.specs.declared.place.Loc.{Loc}
use Rattle.upc_values.specs.declared.scalar.Scalar.{Scalar}
use Rattle.upc_values.specs.Operations.{Place, Operation}
use Rattle.upc_values.specs.Orders.{rank}
use Rattle.upc_values.specs.Consistent.{same_place, initial_at}
use Rattle.upc_verify_orders.specs.declared.program.Mark.{Mark}
use Rattle.upc_verify_orders.specs.code.Found.{AreSorted}

-- The number of the first operation at a place, where the first of all has this number.
abbrev pub first_at : Place → ℕ → List Operation → Option ℕ
first_at p n [] = None
first_at p n (o ∷ os) = cond (same_place o.place p) (Some n) (first_at p (n + 1) os)

-- The number of a place.
abbrev pub number_in : List Operation → Place → ℕ
number_in operations p = unwrap_or (first_at p 0 operations) 0

-- The numbers of the operations' places.
abbrev pub numbers_in : List Operation → List ℕ
numbers_in operations = map (λ o. number_in operations o.place) operations

-- What the operations' places begin with.
abbrev pub firsts_in : (Loc → Scalar) → List Operation → List Scalar
firsts_in initial operations = map (λ o. initial_at initial o.place) operations

-- An operation, as it is compared with others of its thread.
abbrev pub mark_by : (Place → ℕ) → Operation → Mark
mark_by number o = record { rank = rank o; strict = o.strict; write = o.write; place = number o.place }

-- Those of one thread.
abbrev pub marks_by : (Place → ℕ) → ℕ → List Operation → List Mark
marks_by number t os = map (mark_by number) (filter (λ o. o.thread == t) os)

-- The operations are sorted, and these are the numbers of their places.
pub record AreKnown (operations : List Operation) (numbers : List ℕ) : Type 0 where
  pub sorted : AreSorted operations
  pub numbered : numbers ≡ numbers_in operations
