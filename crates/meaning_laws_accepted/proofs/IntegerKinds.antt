-- The kinds that operators give are kinds of integers.
use Rattle.std.proofs.Common.{nat_lt, nat_le, Bool, true, false, if◌then◌else◌, Option, Some, None}
use Rattle.block_layout.specs.declared.kind.Kind.{Kind}
use Rattle.block_layout.specs.declared.kind.Kind.TheVariants as kind
use Rattle.integers.specs.declared.operator.BinOp.{BinOp}
use Rattle.integers.specs.declared.operator.BinOp.TheVariants as op
use Rattle.integers.specs.declared.operator.UnOp.{UnOp}
use Rattle.integers.specs.declared.operator.UnOp.TheVariants as un
use Rattle.integers.specs.Integers.{IsInteger, width, is_signed, promoted, rank}
use Rattle.integers.specs.Operators.{binary_kind, unary_kind}
use Rattle.upc_types.specs.Arithmetic.{unsigned_of, mixed, common, usual}
use Rattle.upc_types.specs.Types as types
use Rattle.upc_types.specs.Types.{Base}
use Rattle.typing_rules.specs.Values.{base_kind}
use Rattle.typing_rules.specs.Constants.{working_kind}
use Rattle.upc_lexer.specs.declared.token.NumberKind.{NumberKind}
use Rattle.upc_lexer.specs.declared.token.NumberKind.TheVariants as number
use Rattle.upc_checker_nodes.specs.Marks.{number_kind}

pub number_integer : (k : NumberKind) → IsInteger (number_kind k)
number_integer number.Int = tt
number_integer number.UInt = tt
number_integer number.Long = tt
number_integer number.ULong = tt

-- The kind of an integer type.
abbrev pub IsKind : Option Kind → Type 0
IsKind None = Unit {0}
IsKind (Some k) = IsInteger k

pub kind_integer : (b : Base) → IsKind (base_kind b)
kind_integer types.Void = tt
kind_integer (types.Integer kind.Char) = tt
kind_integer (types.Integer kind.UChar) = tt
kind_integer (types.Integer kind.Short) = tt
kind_integer (types.Integer kind.UShort) = tt
kind_integer (types.Integer kind.Int) = tt
kind_integer (types.Integer kind.UInt) = tt
kind_integer (types.Integer kind.Long) = tt
kind_integer (types.Integer kind.ULong) = tt
kind_integer (types.Integer (kind.Shared n block)) = tt
kind_integer (types.Integer kind.Lock) = tt
kind_integer (types.Integer (kind.Private n)) = tt
kind_integer (types.Struct number) = tt
kind_integer (types.Array t count) = tt
kind_integer (types.Pointer t) = tt
kind_integer types.LockObject = tt

either_integer : (b : Bool) (j k : Kind) → IsInteger j → IsInteger k → IsInteger (if b then j else k)
either_integer true j k h i = h
either_integer false j k h i = i

pub promoted_integer : (k : Kind) → IsInteger k → IsInteger (promoted k)
promoted_integer k h = either_integer (nat_lt (rank k) (rank kind.Int)) kind.Int k tt h

unsigned_integer : (k : Kind) → IsInteger k → IsInteger (unsigned_of k)
unsigned_integer kind.Char h = tt
unsigned_integer kind.UChar h = tt
unsigned_integer kind.Short h = tt
unsigned_integer kind.UShort h = tt
unsigned_integer kind.Int h = tt
unsigned_integer kind.UInt h = tt
unsigned_integer kind.Long h = tt
unsigned_integer kind.ULong h = tt
unsigned_integer (kind.Shared n block) h = absurd h
unsigned_integer kind.Lock h = absurd h
unsigned_integer (kind.Private n) h = absurd h

mixed_integer : (j k : Kind) → IsInteger j → IsInteger k → IsInteger (mixed j k)
mixed_integer j k h i =
    either_integer (nat_le (rank k) (rank j)) j _ h
    (either_integer (nat_lt (width j) (width k)) k (unsigned_of k) i (unsigned_integer k i))

common_integer : (j k : Kind) → IsInteger j → IsInteger k → IsInteger (common j k)
common_integer j k h i =
    let higher = either_integer (nat_le (rank k) (rank j)) j k h i in
    either_integer (is_signed j) _ _
    (either_integer (is_signed k) _ _ higher (mixed_integer k j i h))
    (either_integer (is_signed k) _ _ (mixed_integer j k h i) higher)

pub usual_integer : (j k : Kind) → IsInteger j → IsInteger k → IsInteger (usual j k)
usual_integer j k h i = common_integer (promoted j) (promoted k) (promoted_integer j h) (promoted_integer k i)

pub unary_integer : (o : UnOp) (k : Kind) → IsInteger k → IsInteger (unary_kind o (promoted k))
unary_integer un.Plus k h = promoted_integer k h
unary_integer un.Minus k h = promoted_integer k h
unary_integer un.Complement k h = promoted_integer k h
unary_integer un.Not k h = tt

pub binary_integer : (o : BinOp) (j k : Kind) → IsInteger j → IsInteger k
    → IsInteger (binary_kind o (working_kind o j k))
binary_integer op.Multiply j k h i = usual_integer j k h i
binary_integer op.Divide j k h i = usual_integer j k h i
binary_integer op.Remainder j k h i = usual_integer j k h i
binary_integer op.Add j k h i = usual_integer j k h i
binary_integer op.Subtract j k h i = usual_integer j k h i
binary_integer op.ShiftLeft j k h i = promoted_integer j h
binary_integer op.ShiftRight j k h i = promoted_integer j h
binary_integer op.Less j k h i = tt
binary_integer op.Greater j k h i = tt
binary_integer op.LessEqual j k h i = tt
binary_integer op.GreaterEqual j k h i = tt
binary_integer op.Equal j k h i = tt
binary_integer op.NotEqual j k h i = tt
binary_integer op.BitAnd j k h i = usual_integer j k h i
binary_integer op.BitXor j k h i = usual_integer j k h i
binary_integer op.BitOr j k h i = usual_integer j k h i
