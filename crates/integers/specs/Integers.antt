-- The integer kinds, their ranges and conversions between them (C99 6.2.5, 6.3.1.3).
use Rattle.std.specs.Prelude.{IsTrue, ℕ, ◌^◌, ◌≡◌, ◌&&◌, Bool, true, false, if◌then◌else◌, ℤ, pos, neg_ℤ, ◌+ℤ◌, ◌-ℤ◌}
use Rattle.std.specs.Prelude.{nat_lt, ◌*ℤ◌, ◌≤ℤ◌, ◌<ℤ◌, int_le, int_lt, Result, Ok, Err}
use Rattle.block_layout.specs.Floor.{floor_mod}
use Rattle.block_layout.specs.declared.kind.Kind.{Kind}
use Rattle.block_layout.specs.declared.kind.Kind.TheVariants.{Char, UChar, Short, UShort, Int, UInt, Long, ULong}
use Rattle.block_layout.specs.declared.kind.Kind.TheVariants.{Shared, Lock, Private}
use Rattle.block_layout.specs.declared.run_error.TheConstants.{SIGNED_OVERFLOW}

-- The bits of an integer kind; a kind that is no integer has none (C99 6.2.6.2).
abbrev pub width : Kind → ℕ
width Char = 8
width UChar = 8
width Short = 16
width UShort = 16
width Int = 32
width UInt = 32
width Long = 64
width ULong = 64
width kind = 0

-- Whether a kind has negative values, as char has (C99 6.2.5).
abbrev pub is_signed : Kind → Bool
is_signed Char = true
is_signed Short = true
is_signed Int = true
is_signed Long = true
is_signed kind = false

-- The least value of an integer kind (C99 6.2.5).
abbrev pub least : Kind → ℤ
least Char = neg_ℤ (pos (2 ^ 7))
least Short = neg_ℤ (pos (2 ^ 15))
least Int = neg_ℤ (pos (2 ^ 31))
least Long = neg_ℤ (pos (2 ^ 63))
least kind = pos 0

-- How many values an integer kind has (C99 6.2.6.2).
abbrev pub values : Kind → ℕ
values kind = 2 ^ width kind

-- A number lies in a kind's range (C99 6.2.5).
pub record InKind (v : ℤ) (kind : Kind) : Type 0 where
  pub low : least kind ≤ℤ v
  pub high : v <ℤ (least kind +ℤ pos (values kind))

-- Whether a number lies in a kind's range (C99 6.2.5).
abbrev pub in_kind : Kind → ℤ → Bool
in_kind kind v = int_le (least kind) v && int_lt v (least kind +ℤ pos (values kind))

-- The kind is that of an integer type (C99 6.2.5).
abbrev pub IsInteger : Kind → Type 0
IsInteger (Shared n b) = ⊥
IsInteger Lock = ⊥
IsInteger (Private n) = ⊥
IsInteger kind = Unit {0}

-- The conversion rank of an integer kind (C99 6.3.1.1), 0 of another.
abbrev pub rank : Kind → ℕ
rank Char = 1
rank UChar = 1
rank Short = 2
rank UShort = 2
rank Int = 3
rank UInt = 3
rank Long = 4
rank ULong = 4
rank kind = 0

-- The kind of an integer after promotion: int for each kind of lower rank, as int has all its values (C99 6.3.1.1).
abbrev pub promoted : Kind → Kind
promoted kind = if nat_lt (rank kind) (rank Int) then Int else kind

-- The kind is an integer kind that promotion leaves as it is (C99 6.3.1.1).
abbrev pub IsPromoted : Kind → Type 0
IsPromoted Int = Unit {0}
IsPromoted UInt = Unit {0}
IsPromoted Long = Unit {0}
IsPromoted ULong = Unit {0}
IsPromoted kind = ⊥

-- Two numbers differ by a multiple of the number of a kind's values.
abbrev pub AreCongruent : ℤ → ℤ → Kind → Type 0
AreCongruent a b kind = (m : ℤ) × (a ≡ b +ℤ m *ℤ pos (values kind))

-- The number of a kind's range that differs from v by a multiple of the number of the kind's values (C99 6.3.1.3).
abbrev pub converted : Kind → ℤ → ℤ
converted kind v = least kind +ℤ pos (floor_mod (v -ℤ least kind) (values kind))

-- An exact result at a kind: an unsigned one is brought into the range, a signed one has to lie in it (C99 6.2.5, 6.5).
abbrev pub brought : Kind → ℤ → Result ℤ ℕ
brought kind v =
    if is_signed kind
    then (if in_kind kind v then Ok v else Err SIGNED_OVERFLOW)
    else Ok (converted kind v)

-- An exact result is none of the values of its kind, which is signed (C99 6.5).
abbrev pub IsLost : Kind → ℤ → Type 0
IsLost kind v = IsTrue (is_signed kind) × (¬ (InKind v kind))
