-- The kind of the result of integer operators (C99 6.3.1.1, 6.3.1.8).
use Rattle.std.specs.Prelude.{nat_lt, nat_le, if◌then◌else◌}
use Rattle.block_layout.specs.declared.kind.Kind.{Kind}
use Rattle.block_layout.specs.declared.kind.Kind.TheVariants.{Int, UInt, Long, ULong}
use Rattle.integers.specs.Integers.{width, is_signed, rank, promoted}

-- The unsigned kind that has the same rank as a promoted kind (C99 6.3.1.1).
abbrev pub unsigned_of : Kind → Kind
unsigned_of Int = UInt
unsigned_of Long = ULong
unsigned_of kind = kind

-- The common kind of an unsigned and a signed one (C99 6.3.1.8): the unsigned one where its rank is not lower; else the
-- signed one where it has all values of the unsigned one, that is, where it is wider; else the unsigned kind of the
-- signed one's rank.
abbrev pub mixed : Kind → Kind → Kind
mixed unsigned signed =
    if nat_le (rank signed) (rank unsigned)
    then unsigned
    else (if nat_lt (width unsigned) (width signed) then signed else unsigned_of signed)

-- The common kind of two promoted kinds (C99 6.3.1.8): the one of higher rank where both are signed or both are
-- unsigned, else that of an unsigned and a signed one.
abbrev pub common : Kind → Kind → Kind
common a b =
    if is_signed a
    then (if is_signed b then (if nat_le (rank b) (rank a) then a else b) else mixed b a)
    else (if is_signed b then mixed a b else (if nat_le (rank b) (rank a) then a else b))

-- The kind in which an operator computes on operands of these integer kinds, by the usual arithmetic conversions
-- (C99 6.3.1.8).
abbrev pub usual : Kind → Kind → Kind
usual a b = common (promoted a) (promoted b)
