-- The places of numbers in a list.
use Rattle.std.specs.Prelude.{◌≡◌, ℕ, zero, suc, ◌<◌, nat_eq, if◌then◌else◌, List, length, get_or, Option, Some, None}
use Rattle.std.specs.BTreeMap.{get, BTreeMap}
use Rattle.std.specs.Ordering.{nat_cmp}

-- The latest place below a given one at which a number stands in a list, from 0.
abbrev pub place_below : List ℕ → ℕ → ℕ → Option ℕ
place_below numbers n zero = None
place_below numbers n (suc place) =
    if nat_eq (get_or numbers place 0) n then Some place else place_below numbers n place

-- Each place is linked to the latest one below it of the same number.
abbrev pub IsLinked : List ℕ → List (Option ℕ) → Type 0
IsLinked numbers links =
    (place : ℕ) → place < length numbers → get_or links place None ≡ place_below numbers (get_or numbers place 0) place

-- The map finds the latest place of each number.
abbrev pub IsPlaced : BTreeMap ℕ ℕ → List ℕ → Type 0
IsPlaced m numbers = (n : ℕ) → get nat_cmp m n ≡ place_below numbers n (length numbers)
