-- Members by their names.
use Rattle.std.specs.Prelude.{◌≡◌, ℕ, zero, suc, nat_eq, if◌then◌else◌, List, [], ◌∷◌, Option, Some, None}
use Rattle.std.specs.BTreeMap.{BTreeMap, get_by}
use Rattle.std.specs.Cmp.Lexicographic.{pointwise, slice_cmp}
use Rattle.std.specs.Ordering.{nat_cmp}
use Rattle.upc_types.specs.Types.{Member}

-- One more than a number, where there is one.
abbrev pub one_more : Option ℕ → Option ℕ
one_more None = None
one_more (Some n) = Some (suc n)

-- The number of the first member with this name, from 0; none where there is no such member.
abbrev pub first_named : List Member → List ℕ → Option ℕ
first_named [] name = None
first_named (m ∷ ms) name = if pointwise nat_eq m.name name then Some zero else one_more (first_named ms name)

-- The value of a map at a name, where the map's keys have these bytes.
abbrev pub at_name : {K : Type 0} → BTreeMap K ℕ → (K → List ℕ) → List ℕ → Option ℕ
at_name names bytes name = get_by (λ k. slice_cmp nat_cmp name (bytes k)) names

-- The map finds the first member of each name.
abbrev pub IsNamed : {K : Type 0} → BTreeMap K ℕ → (K → List ℕ) → List Member → Type 0
IsNamed names bytes ms = (name : List ℕ) → at_name names bytes name ≡ first_named ms name

-- A number, or another one where there is none.
abbrev pub first_or : Option ℕ → Option ℕ → Option ℕ
first_or None other = other
first_or (Some n) other = Some n
