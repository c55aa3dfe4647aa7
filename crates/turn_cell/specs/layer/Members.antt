-- What clauses say of the members of a world's list.
use Rattle.std.specs.Prelude.{ℕ, ◌==◌, List, [], ◌∷◌, length, drop, filter, if◌then◌else◌, nat_lt}

-- The members that name n, in order.
abbrev pub of : {M : Type 0} → (M → ℕ) → ℕ → List M → List M
of number n ms = filter (λ m. number m == n) ms

-- P holds of each element.
abbrev pub Every : {A : Type 0} → (A → Type 0) → List A → Type 0
Every P [] = Unit {0}
Every P (x ∷ xs) = P x × Every P xs

module _ {M : Type 0} where
  -- What a list has after the front that was seen.
  abbrev pub added_to : List M → List M → List M
  added_to seen all = drop (length seen) all

  -- The longer of two lists, the first where they are as long.
  abbrev pub longer : List M → List M → List M
  longer xs ys = if nat_lt (length xs) (length ys) then ys else xs
