-- The names of members in a map.
use Rattle.std.proofs.Common.{◌≡◌, ◌||◌, ℕ, Bool, true, false, nat_eq, if◌then◌else◌, List, Option, Some, is_some, refl, ap, ◌∙◌}
use Rattle.std.specs.BTreeMap.{BTreeMap, UpdatesBy}
use Rattle.std.specs.Cmp.Lexicographic.{pointwise, slice_cmp}
use Rattle.std.specs.Ordering.{nat_cmp}
use Rattle.upc_types.specs.layer.Named.{at_name}
use Rattle.upc_types.proofs.Naming.{put}

some_or : (b : Bool) (n : ℕ) (o : Option ℕ) → is_some (if b then Some n else o) ≡ (b || is_some o)
some_or true n o = refl
some_or false n o = refl

-- A name that is put in is there, with those before.
pub noted : {K : Type 0} (m n : BTreeMap K ℕ) (bytes : K → List ℕ) (name : List ℕ) (number : ℕ) → UpdatesBy (λ x y. slice_cmp nat_cmp (bytes x) (bytes y)) (λ k. slice_cmp nat_cmp name (bytes k)) m n (Some number) → (q : List ℕ) → is_some (at_name n bytes q) ≡ (pointwise nat_eq name q || is_some (at_name m bytes q))
noted m n bytes name number h q = ap is_some (put m n bytes name (Some number) h q) ∙ some_or (pointwise nat_eq name q) number (at_name m bytes q)
