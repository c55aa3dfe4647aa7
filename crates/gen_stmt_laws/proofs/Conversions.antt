-- Operators work at integer kinds that promotion leaves as they are, and conversions lead into integer kinds.
use Rattle.std.proofs.Common.{ℕ, Bool, true, false, if◌then◌else◌, List, [], ◌∷◌, map, Option, Some, None, refl}
use Rattle.std.proofs.Common.{nat_le, nat_lt}
use Rattle.block_layout.specs.declared.kind.Kind.{Kind}
use Rattle.block_layout.specs.declared.kind.Kind.TheVariants as kind
use Rattle.integers.specs.Integers.{IsInteger, IsPromoted, is_signed, width, promoted, rank}
use Rattle.integers.specs.declared.operator.BinOp.{BinOp}
use Rattle.integers.specs.declared.operator.BinOp.TheVariants.{ShiftLeft, ShiftRight}
use Rattle.upc_values.specs.Lists.{Each}
use Rattle.upc_types.specs.Types.{CType, Base, Void, Integer, Struct, Array, Pointer, LockObject, base_of}
use Rattle.upc_types.specs.Types.{block_of}
use Rattle.upc_types.specs.Same.{is_lock_object, same_block}
use Rattle.upc_types.specs.Arithmetic.{unsigned_of, mixed, common, usual}
use Rattle.std.specs.Prelude.{is_some}
use Rattle.typing_rules.specs.Constants.{working_kind, right_kind}
use Rattle.typing_rules.specs.Values.{base_kind, integer_kind}
use Rattle.typing_rules.specs.declared.library.LibraryParameter.{LibraryParameter}
use Rattle.typing_rules.specs.declared.library.LibraryParameter.TheVariants as parameter
use Rattle.thread_steps.specs.declared.cast.CastTo.{CastTo}
use Rattle.thread_steps.specs.declared.cast.CastTo.TheVariants as to
use Rattle.source_meaning.specs.Types as type
use Rattle.source_meaning.specs.layer.Parts as parts
use Rattle.stack_code.specs.declared.instruction.ValueWork.TheVariants as make
use Rattle.stack_code.specs.layer.Kept.{CastFits, ValuesFit}
use Rattle.meaning_laws.specs.layer.Values.{HasIntegerKind, IsFormedType}
use Rattle.meaning_laws.proofs.Operators as operators

-- ---- kinds

-- The kind is one of integers, where there is one.
abbrev pub IsIntegerOf : Option Kind → Type 0
IsIntegerOf None = Unit {0}
IsIntegerOf (Some k) = IsInteger k

kind_is : (k : Kind) → IsIntegerOf (integer_kind k)
kind_is (kind.Shared n b) = tt
kind_is kind.Lock = tt
kind_is (kind.Private n) = tt
kind_is k = tt

-- The kind of an integer type is one of integers.
pub integer_is : (b : Base) → IsIntegerOf (base_kind b)
integer_is (Integer k) = kind_is k
integer_is b = tt

pub promoted_is : (k : Kind) → IsInteger k → IsPromoted (promoted k)
promoted_is (kind.Shared n b) i = absurd i
promoted_is kind.Lock i = absurd i
promoted_is (kind.Private n) i = absurd i
promoted_is k i = tt

pub promoted_integer : (k : Kind) → IsInteger k → IsInteger (promoted k)
promoted_integer (kind.Shared n b) i = absurd i
promoted_integer kind.Lock i = absurd i
promoted_integer (kind.Private n) i = absurd i
promoted_integer k i = tt

unsigned_is : (k : Kind) → IsPromoted k → IsPromoted (unsigned_of k)
unsigned_is kind.Int i = tt
unsigned_is kind.Long i = tt
unsigned_is k i = i

either : (b : Bool) (x y : Kind) → IsPromoted x → IsPromoted y → IsPromoted (if b then x else y)
either true x y p q = p
either false x y p q = q

mixed_is : (u s : Kind) → IsPromoted u → IsPromoted s → IsPromoted (mixed u s)
mixed_is u s i j =
    either (nat_le (rank s) (rank u)) u (if nat_lt (width u) (width s) then s else unsigned_of s) i
    (either (nat_lt (width u) (width s)) s (unsigned_of s) j (unsigned_is s j))

higher_is : (a b : Kind) → IsPromoted a → IsPromoted b → IsPromoted (if nat_le (rank b) (rank a) then a else b)
higher_is a b i j = either (nat_le (rank b) (rank a)) a b i j

common_is : (a b : Kind) → IsPromoted a → IsPromoted b → IsPromoted (common a b)
common_is a b i j =
    either (is_signed a) (if is_signed b then (if nat_le (rank b) (rank a) then a else b) else mixed b a)
    (if is_signed b then mixed a b else (if nat_le (rank b) (rank a) then a else b))
    (either (is_signed b) (if nat_le (rank b) (rank a) then a else b) (mixed b a) (higher_is a b i j)
    (mixed_is b a j i))
    (either (is_signed b) (mixed a b) (if nat_le (rank b) (rank a) then a else b) (mixed_is a b i j)
    (higher_is a b i j))

usual_is : (a b : Kind) → IsInteger a → IsInteger b → IsPromoted (usual a b)
usual_is a b i j = common_is (promoted a) (promoted b) (promoted_is a i) (promoted_is b j)

-- An operator works at kinds at which it may.
pub operate_fits : (o : BinOp) (j k : Kind) → IsInteger j → IsInteger k
    → ValuesFit (make.Operate o (working_kind o j k) (right_kind o j k))
operate_fits ShiftLeft j k p q = (promoted_is j p, (promoted_is k q, tt))
operate_fits ShiftRight j k p q = (promoted_is j p, (promoted_is k q, tt))
operate_fits o j k p q = (usual_is j k p q, (usual_is j k p q, refl))

-- ---- conversions

either_fits : (b : Bool) (x y : CastTo) → CastFits x → CastFits y → CastFits (if b then x else y)
either_fits true x y p q = p
either_fits false x y p q = q

pointer_fits : (from : Option ℕ) (t : CType) → CastFits (type.pointer_conversion from t)
pointer_fits from t =
    let phase = if same_block from (block_of t) then to.Shared else to.OtherBlock in
    either_fits (is_lock_object (base_of t)) to.Lock (if is_some (block_of t) then phase else to.Local) tt
    (either_fits (is_some (block_of t)) phase to.Local
    (either_fits (same_block from (block_of t)) to.Shared to.OtherBlock tt tt) tt)

base_fits : (from : Option ℕ) (b : Base) → HasIntegerKind b → CastFits (type.base_conversion from b)
base_fits from (Integer k) h = h
base_fits from (Pointer t) h = pointer_fits from t
base_fits from Void h = tt
base_fits from (Struct n) h = tt
base_fits from (Array t count) h = tt
base_fits from LockObject h = tt

-- A conversion into a type fits, where the type is of a kind of integers if it is an integer type.
pub conversion_fits : (from t : CType) → HasIntegerKind (base_of t) → CastFits (type.conversion from t)
conversion_fits from t h = base_fits _ (base_of t) h

pub formed_fits : (from t : CType) → IsFormedType t → CastFits (type.conversion from t)
formed_fits from t h = conversion_fits from t (operators.integer_kind t h)

pub conversions_fit : (as_ ts : List CType) → Each IsFormedType ts → Each CastFits (type.conversions as_ ts)
conversions_fit [] ts h = tt
conversions_fit (a ∷ as_) [] h = tt
conversions_fit (a ∷ as_) (t ∷ ts) h = (formed_fits a t h.0, conversions_fit as_ ts h.1)

parameter_fits : (x : LibraryParameter) → CastFits (type.parameter_conversion x)
parameter_fits parameter.SharedPointer = tt
parameter_fits parameter.PrivatePointer = tt
parameter_fits parameter.LockPointer = tt
parameter_fits parameter.Size = tt
parameter_fits parameter.Int = tt
parameter_fits parameter.NoFunction = tt

pub parameters_fit : (xs : List LibraryParameter) → Each CastFits (map type.parameter_conversion xs)
parameters_fit [] = tt
parameters_fit (x ∷ xs) = (parameter_fits x, parameters_fit xs)

promotion_fits : (o : Option Kind) → IsIntegerOf o → CastFits (parts.promotion_of o)
promotion_fits None h = tt
promotion_fits (Some k) h = promoted_integer k h

pub promotions_fit : (ts : List CType) → Each CastFits (map type.promotion ts)
promotions_fit [] = tt
promotions_fit (t ∷ ts) = (promotion_fits (type.integer_of t) (integer_is (base_of t)), promotions_fit ts)
