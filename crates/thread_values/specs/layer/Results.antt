-- What the steps of a thread make of values: a value, or the code of a run error.
use Rattle.std.specs.Prelude.{ℕ, ℤ, pos, ◌≡◌, ◌&&◌, int_le, int_lt, if◌then◌else◌}
use Rattle.std.specs.Prelude.{Bool, true, false, Option, Some, None, Result, Ok, Err}
use Rattle.block_layout.specs.declared.kind.Kind.{Kind}
use Rattle.block_layout.specs.declared.kind.Kind.TheVariants as kind
use Rattle.integers.specs.declared.operator.BinOp.{BinOp}
use Rattle.integers.specs.declared.operator.BinOp.TheVariants.{ShiftLeft, ShiftRight}
use Rattle.integers.specs.declared.operator.UnOp.{UnOp}
use Rattle.integers.specs.Integers.{IsInteger, converted}
use Rattle.integers.specs.Operators.{binary_of, unary_of}
use Rattle.upc_values.specs.declared.scalar.Scalar.{Scalar}
use Rattle.upc_values.specs.declared.scalar.Value.{Value}
use Rattle.upc_values.specs.declared.scalar.Value.TheVariants as value
use Rattle.upc_values.specs.declared.library.LibraryCall.{LibraryCall}
use Rattle.upc_values.specs.declared.library.LibraryCall.TheVariants as call
use Rattle.upc_values.specs.Expansion.{Expansion, Gives, Fails}
use Rattle.thread_steps.specs.declared.cast.CastTo.{CastTo}
use Rattle.thread_steps.specs.declared.cast.CastTo.TheVariants as to
use Rattle.thread_steps.specs.Values.{number, number_of}
use Rattle.thread_steps.specs.layer.Parts.{outside}

-- A number as a value, or the same run error.
abbrev pub number_value : Result ℤ ℕ → Result Value ℕ
number_value (Ok v) = Ok (number v)
number_value (Err code) = Err code

-- What a binary operator gives on both operands at their kinds, or its run error (C99 6.5.5 to 6.5.12).
abbrev pub operated : BinOp → (left right : Kind) → Value → Value → Result Value ℕ
operated op left right a b =
    number_value (binary_of op left (converted left (number_of a)) (converted right (number_of b)))

-- What a unary operator gives on an operand at its kind, or its run error (C99 6.5.3.3).
abbrev pub applied : UnOp → Kind → Value → Result Value ℕ
applied op kind a = number_value (unary_of op kind (converted kind (number_of a)))

-- What an order of two pointers gives by their difference, which is compared with 0, or its run error (C99 6.5.8,
-- UPC 6.4.2).
abbrev pub ordered : BinOp → Result ℤ ℕ → Result Value ℕ
ordered op (Ok x) = number_value (binary_of op kind.Long x (pos 0))
ordered op (Err code) = Err code

-- An index is one of a row of so many elements, else the run error of the pointer's object (C99 6.5.2.1, 6.5.6).
abbrev pub row_test : (count : ℕ) → Value → ℤ → Result (Unit {0}) ℕ
row_test count p i = if int_le (pos 0) i && int_lt i (pos count) then Ok tt else Err (outside p)

-- The call of the library asks for no action (UPC 7.2.3).
abbrev pub asks_nothing : LibraryCall → Bool
asks_nothing call.ThreadOf = true
asks_nothing call.PhaseOf = true
asks_nothing call.AddressField = true
asks_nothing call.AffinitySize = true
asks_nothing c = false

-- What a library call gives that takes no step, a value or a run error; none where it takes one.
abbrev pub given_at_once : Expansion Scalar → Option (Result Value ℕ)
given_at_once (Gives v) = Some (Ok (value.Scalar v))
given_at_once (Fails code) = Some (Err code)
given_at_once x = None

-- Both operands of an operator are of one kind; only the count of a shift may be of another (C99 6.5.7).
abbrev pub IsRightKind : BinOp → (left right : Kind) → Type 0
IsRightKind ShiftLeft left right = Unit {0}
IsRightKind ShiftRight left right = Unit {0}
IsRightKind op left right = right ≡ left

-- A conversion into an integer names an integer kind.
abbrev pub IsCast : CastTo → Type 0
IsCast (to.Integer kind) = IsInteger kind
IsCast into = Unit {0}
