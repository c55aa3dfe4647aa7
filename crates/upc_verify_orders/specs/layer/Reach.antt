-- How far a list of the strict operations goes up to an operation, and from it on.
use Rattle.std.specs.Prelude.{ℕ, ◌≡◌, ◌≤◌, ◌<◌, ◌+◌, ◌==◌, nat_le, Bool, ◌&&◌, cond, List, [], ◌∷◌}
use Rattle.upc_values.specs.Operations.{Operation}
use Rattle.upc_values.specs.Orders.{rank}

-- One more than so many, or 1 where the head alone passes.
abbrev pub one_more : Bool → ℕ → ℕ
one_more b ℕ.zero = cond b 1 0
one_more b (ℕ.suc n) = ℕ.suc (ℕ.suc n)

-- One more than the place of the last member that passes, 0 where none does.
abbrev pub behind_last : {X : Type 0} → (X → Bool) → List X → ℕ
behind_last test [] = 0
behind_last test (x ∷ xs) = one_more (test x) (behind_last test xs)

-- The place of the first member that passes, the length where none does.
abbrev pub first_place : {X : Type 0} → (X → Bool) → List X → ℕ
first_place test [] = 0
first_place test (x ∷ xs) = cond (test x) 0 (first_place test xs + 1)

-- An operation is of o's thread, and o or before it.
abbrev pub is_until : Operation → Operation → Bool
is_until o s = (s.thread == o.thread) && nat_le (rank s) (rank o)

-- An operation is of o's thread, and o or behind it.
abbrev pub is_from : Operation → Operation → Bool
is_from o s = (s.thread == o.thread) && nat_le (rank o) (rank s)

-- The place behind the last strict operation of o's thread at or before o, 0 where there is none.
abbrev pub reached : List Operation → Operation → ℕ
reached strict o = behind_last (is_until o) strict

-- The place of the next strict operation of o's thread at or behind o, the length where there is none.
abbrev pub reaches : List Operation → Operation → ℕ
reaches strict o = first_place (is_from o) strict

-- One may stand before another: no chain of the strict order leads back.
abbrev pub MayPrecede : List Operation → Operation → Operation → Type 0
MayPrecede strict a b = reached strict a ≤ reaches strict b

-- Two of one thread stand in program order.
abbrev pub InThread : Operation → Operation → Type 0
InThread a b = a.thread ≡ b.thread → rank a < rank b
