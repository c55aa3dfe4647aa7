-- The first of two lists, one after the other.
use Rattle.std.proofs.Common.{◌≡◌, List, [], ◌∷◌, ◌++◌, refl}
use Rattle.upc_text.specs.declared.place.Refusal.{Refusal}
use Rattle.affinity_checker.specs.layer.Rules.{first}
use Rattle.std.specs.Option.{option_or}

pub first_append : (xs ys : List Refusal) → first (xs ++ ys) ≡ option_or (first xs) (first ys)
first_append [] ys = refl
first_append (x ∷ xs) ys = refl
