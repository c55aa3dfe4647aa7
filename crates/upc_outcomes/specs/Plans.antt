-- The lists of picks that are asked for.
use Rattle.std.specs.Prelude.{ℕ, ◌≡◌, Bool, true, false, List, [], ◌∷◌, length}
use Rattle.outcomes.specs.Schedules.{lists}
use Rattle.upc_outcomes_words.specs.Values.{Wanted, seeded, every, given, recorded}

-- What runs show is asked for, and not the record of one run.
abbrev pub is_listing : Wanted → Bool
is_listing (recorded picks) = false
is_listing wanted = true

-- The lists are those that are asked for; of lists from a seed no more is said than how many they are.
abbrev pub IsPlanned : Wanted → ℕ → List (List ℕ) → Type 0
IsPlanned (seeded many seed) threads schedules = length schedules ≡ many
IsPlanned (every most) threads schedules = schedules ≡ lists threads most
IsPlanned (given picks) threads schedules = schedules ≡ picks ∷ []
IsPlanned (recorded picks) threads schedules = schedules ≡ picks ∷ []
