-- The names of a source, numbered by first appearance.
use Rattle.std.specs.Prelude.{ℕ, Bool, not, List, [], ◌∷◌, ◌++◌, filter, nat_eq, if◌then◌else◌}
use Rattle.std.specs.List.{list_any}
use Rattle.std.specs.Cmp.Lexicographic.{pointwise}

-- Whether two names have the same bytes.
abbrev pub is_same : List ℕ → List ℕ → Bool
is_same a b = pointwise nat_eq a b

-- Some names, each once, in order of first appearance.
abbrev pub firsts : List (List ℕ) → List (List ℕ)
firsts [] = []
firsts (x ∷ xs) = x ∷ filter (λ y. not (is_same x y)) (firsts xs)

-- The names with one more, where it is new.
abbrev pub insert_name : List (List ℕ) → List ℕ → List (List ℕ)
insert_name names x = if list_any (is_same x) names then names else names ++ x ∷ []
