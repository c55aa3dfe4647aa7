-- Stars in a row.
use Rattle.std.specs.Prelude.{◌≡◌, ℕ, zero, suc, ◌+◌, Bool, Option}
use Rattle.upc_types.specs.declared.ctype.Access.{Access}
use Rattle.upc_types.specs.declared.stars.Stars.{Stars}
use Rattle.upc_types.specs.Types.{Qualified, Base, Pointer}

-- Whether the targets of these stars have these qualifiers.
abbrev pub IsStarTo : Stars → Bool → Option ℕ → Access → Type 0
IsStarTo s constant shared access = (s.constant ≡ constant) × ((s.shared ≡ shared) × (s.access ≡ access))

-- These stars and one more.
abbrev pub one_more : Stars → Stars
one_more s = record { count = s.count + 1; constant = s.constant; shared = s.shared; access = s.access }

-- A type with so many stars before it, the target of each with these qualifiers.
abbrev pub spread : ℕ → Bool → Option ℕ → Access → Base → Base
spread zero constant shared access b = b
spread (suc count) constant shared access b =
    Pointer (Qualified (spread count constant shared access b) constant shared access)

-- Whether a type begins with these stars and goes on with the other type.
abbrev pub BeginsSo : Stars → Base → Base → Type 0
BeginsSo s b after = b ≡ spread s.count s.constant s.shared s.access after
