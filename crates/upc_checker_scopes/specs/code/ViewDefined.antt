-- The map from the name of a function to its number.
use Rattle.std.specs.Prelude.{◌≡◌, ℕ, ◌==◌, nat_eq, if◌then◌else◌, List, Option, Some, None}
use Rattle.std.specs.HashMap.{get, HashMap}
use Rattle.std.specs.List.{list_any}
use Rattle.upc_checker_scopes.specs.Defined.{number_in}

-- The number of a function among those that are defined, none where it is not defined (C99 6.9.1).
abbrev pub numbered : List ℕ → ℕ → Option ℕ
numbered names name = if list_any (λ x. x == name) names then Some (number_in names name) else None

-- The map finds the number of each function that is defined, and no other.
abbrev pub IsNumbered : {S : Type 0} → HashMap ℕ ℕ S → List ℕ → Type 0
IsNumbered m names = (name : ℕ) → get nat_eq m name ≡ numbered names name

-- A number, or another one where there is none.
abbrev pub first_or : Option ℕ → Option ℕ → Option ℕ
first_or None other = other
first_or (Some number) other = Some number
