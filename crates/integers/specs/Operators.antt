-- The operators on integers of a promoted kind (C99 6.5.3.3, 6.5.5 to 6.5.12).
use Rattle.std.specs.Prelude.{◌≢◌, ◌⊎◌, IsTrue, ℕ, ◌^◌, ◌&&◌, not, Bool, if◌then◌else◌, ℤ, pos, neg_ℤ, ◌+ℤ◌, ◌-ℤ◌}
use Rattle.std.specs.Prelude.{◌*ℤ◌, ◌≤ℤ◌, ◌<ℤ◌, int_le, int_lt, int_div, int_rem, unsigned_abs, bit_and, bit_or}
use Rattle.std.specs.Prelude.{bit_xor, Result, Ok, Err}
use Rattle.std.specs.Ordering.{int_eq}
use Rattle.block_layout.specs.Floor.{floor_div, floor_mod}
use Rattle.block_layout.specs.declared.kind.Kind.{Kind}
use Rattle.block_layout.specs.declared.kind.Kind.TheVariants.{Int}
use Rattle.block_layout.specs.declared.run_error.TheConstants.{SIGNED_OVERFLOW, ZERO_DIVISOR, SHIFT_RANGE}
use Rattle.integers.specs.declared.operator.BinOp.{BinOp}
use Rattle.integers.specs.declared.operator.BinOp.TheVariants.{Multiply, Divide, Remainder, Add, Subtract, ShiftLeft}
use Rattle.integers.specs.declared.operator.BinOp.TheVariants.{ShiftRight, Less, Greater, LessEqual, GreaterEqual}
use Rattle.integers.specs.declared.operator.BinOp.TheVariants.{Equal, NotEqual, BitAnd, BitXor, BitOr}
use Rattle.integers.specs.declared.operator.UnOp.{UnOp}
use Rattle.integers.specs.declared.operator.UnOp.TheVariants.{Plus, Minus, Complement, Not}
use Rattle.integers.specs.Integers.{IsLost, width, values, in_kind, InKind, converted, brought}

-- A comparison gives the int 1 or 0 (C99 6.5.8, 6.5.9).
abbrev pub truth : Bool → ℤ
truth b = if b then pos 1 else pos 0

-- The bits of a value in two's complement (C99 6.2.6.2).
abbrev pub bits_of : Kind → ℤ → ℕ
bits_of kind v = floor_mod v (values kind)

-- A shift's count is a number of bits below the width (C99 6.5.7).
abbrev pub is_count : Kind → ℤ → Bool
is_count kind b = int_le (pos 0) b && int_lt b (pos (width kind))

-- The quotient, rounded towards zero; a divisor of 0 is run error 2 (C99 6.5.5).
abbrev pub quotient_of : Kind → ℤ → ℤ → Result ℤ ℕ
quotient_of kind a b = if int_eq b (pos 0) then Err ZERO_DIVISOR else brought kind (int_div a b)

-- The remainder of a quotient rounded towards zero, where that quotient is a value of the kind (C99 6.5.5).
abbrev pub remainder_of : Kind → ℤ → ℤ → Result ℤ ℕ
remainder_of kind a b =
    if int_eq b (pos 0)
    then Err ZERO_DIVISOR
    else if in_kind kind (int_div a b) then Ok (int_rem a b) else Err SIGNED_OVERFLOW

-- The value times 2 to the power of the count, for a value that is not negative (C99 6.5.7).
abbrev pub left_shift_of : Kind → ℤ → ℤ → Result ℤ ℕ
left_shift_of kind a b =
    if int_lt a (pos 0)
    then Err SIGNED_OVERFLOW
    else if is_count kind b then brought kind (a *ℤ pos (2 ^ unsigned_abs b)) else Err SHIFT_RANGE

-- The value divided by 2 to the power of the count, rounded down (C99 6.5.7).
abbrev pub right_shift_of : Kind → ℤ → ℤ → Result ℤ ℕ
right_shift_of kind a b = if is_count kind b then Ok (floor_div a (2 ^ unsigned_abs b)) else Err SHIFT_RANGE

-- What a binary operator gives at operands of a kind, a shift's count being of any (C99 6.5.5 to 6.5.12).
abbrev pub binary_of : BinOp → Kind → ℤ → ℤ → Result ℤ ℕ
binary_of Multiply kind a b = brought kind (a *ℤ b)
binary_of Divide kind a b = quotient_of kind a b
binary_of Remainder kind a b = remainder_of kind a b
binary_of Add kind a b = brought kind (a +ℤ b)
binary_of Subtract kind a b = brought kind (a -ℤ b)
binary_of ShiftLeft kind a b = left_shift_of kind a b
binary_of ShiftRight kind a b = right_shift_of kind a b
binary_of Less kind a b = Ok (truth (int_lt a b))
binary_of Greater kind a b = Ok (truth (int_lt b a))
binary_of LessEqual kind a b = Ok (truth (int_le a b))
binary_of GreaterEqual kind a b = Ok (truth (int_le b a))
binary_of Equal kind a b = Ok (truth (int_eq a b))
binary_of NotEqual kind a b = Ok (truth (not (int_eq a b)))
binary_of BitAnd kind a b = Ok (converted kind (pos (bit_and (bits_of kind a) (bits_of kind b))))
binary_of BitXor kind a b = Ok (converted kind (pos (bit_xor (bits_of kind a) (bits_of kind b))))
binary_of BitOr kind a b = Ok (converted kind (pos (bit_or (bits_of kind a) (bits_of kind b))))

-- What a unary operator gives (C99 6.5.3.3): `~` turns each bit, which is -a - 1.
abbrev pub unary_of : UnOp → Kind → ℤ → Result ℤ ℕ
unary_of Plus kind a = Ok a
unary_of Minus kind a = brought kind (neg_ℤ a)
unary_of Complement kind a = brought kind (neg_ℤ a -ℤ pos 1)
unary_of Not kind a = Ok (truth (int_eq a (pos 0)))

-- A count may be a value of any promoted kind. Any other right operand is of the operator's kind.
abbrev pub RightFits : BinOp → Kind → ℤ → Type 0
RightFits ShiftLeft kind b = (neg_ℤ (pos (2 ^ 63)) ≤ℤ b) × (b <ℤ pos (2 ^ 64))
RightFits ShiftRight kind b = (neg_ℤ (pos (2 ^ 63)) ≤ℤ b) × (b <ℤ pos (2 ^ 64))
RightFits op kind b = InKind b kind

-- The kind of a binary operator's result: comparisons give int (C99 6.5.8, 6.5.9).
abbrev pub binary_kind : BinOp → Kind → Kind
binary_kind Less kind = Int
binary_kind Greater kind = Int
binary_kind LessEqual kind = Int
binary_kind GreaterEqual kind = Int
binary_kind Equal kind = Int
binary_kind NotEqual kind = Int
binary_kind op kind = kind

-- The kind of a unary operator's result: `!` gives int (C99 6.5.3.3).
abbrev pub unary_kind : UnOp → Kind → Kind
unary_kind Not kind = Int
unary_kind op kind = kind

-- The operator is `/` or `%` (C99 6.5.5).
abbrev pub IsDivision : BinOp → Type 0
IsDivision Divide = Unit {0}
IsDivision Remainder = Unit {0}
IsDivision op = ⊥

-- Where a signed result does not fit: the exact result is lost, the quotient of a remainder is none, or a negative
-- value is shifted left.
abbrev pub Overflows : BinOp → Kind → ℤ → ℤ → Type 0
Overflows Multiply kind a b = IsLost kind (a *ℤ b)
Overflows Add kind a b = IsLost kind (a +ℤ b)
Overflows Subtract kind a b = IsLost kind (a -ℤ b)
Overflows Divide kind a b = (b ≢ pos 0) × IsLost kind (int_div a b)
Overflows Remainder kind a b = (b ≢ pos 0) × (¬ (InKind (int_div a b) kind))
Overflows ShiftLeft kind a b =
    (a <ℤ pos 0) ⊎ (IsTrue (is_count kind b) × IsLost kind (a *ℤ pos (2 ^ unsigned_abs b)))
Overflows op kind a b = ⊥

-- Where a shift has no count below the width. A negative value is not shifted left by any count.
abbrev pub LacksCount : BinOp → Kind → ℤ → ℤ → Type 0
LacksCount ShiftLeft kind a b = (pos 0 ≤ℤ a) × (¬ (IsTrue (is_count kind b)))
LacksCount ShiftRight kind a b = ¬ (IsTrue (is_count kind b))
LacksCount op kind a b = ⊥
