-- Lists of pairs.
use Rattle.std.specs.Prelude.{ℕ, ◌==◌, List, [], ◌∷◌, Option, Some, None, cond}

-- What the first pair with this number has beside it.
abbrev pub under : {X : Type 0} → ℕ → List (ℕ × X) → Option X
under n [] = None
under n (x ∷ xs) = cond (x.0 == n) (Some x.1) (under n xs)
