-- What is known of the outside: the bytes of its names, the bytes that it took, and its counts of faults.
use Rattle.std.specs.Prelude.{◌≡◌, ℕ, ◌-◌, ◌^◌, ◌<◌, ◌≤◌, ◌⊎◌, Option, None, Some, IfSome, List, ◌++◌, length, take}
use Rattle.std.specs.Prelude.{drop}

-- A count rose in a call: it is greater after the call than before, or stands after it at the last value of 64 bits,
-- where it stays.
abbrev pub Rose : ℕ → ℕ → Type 0
Rose before after = (before < after) ⊎ (after ≡ 2 ^ 64 - 1)

-- Where the bytes of a name are known, a piece is what stands in them from a place on, as far as the piece goes.
abbrev pub StandsAt : Option (List ℕ) → ℕ → List ℕ → Type 0
StandsAt told at piece = IfSome told (λ bytes. piece ≡ take (length piece) (drop at bytes))

-- Where the bytes of a name are known, they end at that place or before it.
abbrev pub EndsBy : Option (List ℕ) → ℕ → Type 0
EndsBy told at = IfSome told (λ bytes. length bytes ≤ at)

-- Where the bytes of a name are known, they are these.
abbrev pub IsWhole : Option (List ℕ) → List ℕ → Type 0
IsWhole told whole = IfSome told (λ bytes. whole ≡ bytes)

-- Where the bytes of a name are known, there are more than so many.
abbrev pub IsLonger : Option (List ℕ) → ℕ → Type 0
IsLonger told most = IfSome told (λ bytes. most < length bytes)

-- What a sink has taken after one more piece, where it is known what it takes.
abbrev pub taken_with : Option (List ℕ) → List ℕ → Option (List ℕ)
taken_with None piece = None
taken_with (Some bytes) piece = Some (bytes ++ piece)

-- A sink took the first bytes of these and no more, perhaps none of them or all.
abbrev pub TookPrefix : Option (List ℕ) → Option (List ℕ) → List ℕ → Type 0
TookPrefix before after bytes = (n : ℕ) × (n ≤ length bytes) × (after ≡ taken_with before (take n bytes))
