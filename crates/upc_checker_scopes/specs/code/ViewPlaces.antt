-- The places of names in a list.
use Rattle.std.specs.Prelude.{◌≡◌, ℕ, nat_eq, List, length}
use Rattle.std.specs.HashMap.{get, HashMap}
use Rattle.upc_types.specs.layer.Places.{place_below}

-- The map finds the latest place of each name.
abbrev pub IsPlaced : {S : Type 0} → HashMap ℕ ℕ S → List ℕ → Type 0
IsPlaced m names = (name : ℕ) → get nat_eq m name ≡ place_below names name (length names)
