-- Operands of binary operators, converted to the kinds at which these work.
use Rattle.std.proofs.Common.{ℕ, ℤ, pos, neg_ℤ, ◌≤◌, ◌≤ℤ◌, ◌<ℤ◌, ◌^◌, unsigned_abs, Option, Some, None, IfSome}
use Rattle.std.proofs.Common.{Result, Ok, Err, IfOk, arith}
use Rattle.std.proofs.lemmas.Int.{ints}
use Rattle.block_layout.specs.declared.kind.Kind.{Kind}
use Rattle.block_layout.specs.declared.kind.Kind.TheVariants.{Char, UChar, Short, UShort, Int, UInt, Long, ULong}
use Rattle.block_layout.specs.declared.kind.Kind.TheVariants.{Shared, Lock, Private}
use Rattle.integers.specs.declared.operator.BinOp.{BinOp}
use Rattle.integers.specs.declared.operator.BinOp.TheVariants.{Multiply, Divide, Remainder, Add, Subtract, ShiftLeft}
use Rattle.integers.specs.declared.operator.BinOp.TheVariants.{ShiftRight, Less, Greater, LessEqual}
use Rattle.integers.specs.declared.operator.BinOp.TheVariants.{GreaterEqual, Equal, NotEqual, BitAnd, BitXor}
use Rattle.integers.specs.declared.operator.BinOp.TheVariants.{BitOr}
use Rattle.integers.specs.Integers.{InKind, promoted}
use Rattle.integers.specs.Operators.{RightFits}
use Rattle.typing_rules.specs.Constants.{working_kind, right_kind, IsKindValue}

-- A value of a kind may be a shift's count.
count_fits : (v : ℤ) (kind : Kind) → InKind v kind → (neg_ℤ (pos (2 ^ 63)) ≤ℤ v) × (v <ℤ pos (2 ^ 64))
count_fits v Char h = (omega (arith, ints, h.low), omega (arith, ints, h.high))
count_fits v UChar h = (omega (arith, ints, h.low), omega (arith, ints, h.high))
count_fits v Short h = (omega (arith, ints, h.low), omega (arith, ints, h.high))
count_fits v UShort h = (omega (arith, ints, h.low), omega (arith, ints, h.high))
count_fits v Int h = (omega (arith, ints, h.low), omega (arith, ints, h.high))
count_fits v UInt h = (omega (arith, ints, h.low), omega (arith, ints, h.high))
count_fits v Long h = (omega (arith, ints, h.low), omega (arith, ints, h.high))
count_fits v ULong h = (omega (arith, ints, h.low), omega (arith, ints, h.high))
count_fits v (Shared n b) h = (omega (arith, ints, h.low), omega (arith, ints, h.high))
count_fits v Lock h = (omega (arith, ints, h.low), omega (arith, ints, h.high))
count_fits v (Private n) h = (omega (arith, ints, h.low), omega (arith, ints, h.high))

-- The right operand, once it is converted, is one that the operator takes.
pub right_fits : (op : BinOp) (a b : Kind) (v : ℤ) → InKind v (right_kind op a b) → RightFits op (working_kind op a b) v
right_fits Multiply a b v h = h
right_fits Divide a b v h = h
right_fits Remainder a b v h = h
right_fits Add a b v h = h
right_fits Subtract a b v h = h
right_fits ShiftLeft a b v h = count_fits v (promoted b) h
right_fits ShiftRight a b v h = count_fits v (promoted b) h
right_fits Less a b v h = h
right_fits Greater a b v h = h
right_fits LessEqual a b v h = h
right_fits GreaterEqual a b v h = h
right_fits Equal a b v h = h
right_fits NotEqual a b v h = h
right_fits BitAnd a b v h = h
right_fits BitXor a b v h = h
right_fits BitOr a b v h = h

-- A value of a kind is one of an integer kind.
pub kind_value : (r : Result ℤ ℕ) (kind : Kind) → IfOk r (λ v. InKind v kind) → IfOk r IsKindValue
kind_value (Ok v) kind h = let f = count_fits v kind h in record { low = f.0; high = f.1 }
kind_value (Err e) kind h = tt

near_one : (v : ℤ) → IsKindValue v → unsigned_abs v ≤ 2 ^ 64
near_one v h = omega (arith, ints, h.low, h.high)

-- It is near.
pub near_is : (o : Option ℤ) → IfSome o IsKindValue → IfSome o (λ v. unsigned_abs v ≤ 2 ^ 64)
near_is (Some v) h = near_one v h
near_is None h = tt
