-- The values of constant expressions (C99 6.6).
use Rattle.std.specs.Prelude.{ℕ, ◌==◌, ◌^◌, Bool, true, false, ◌&&◌, not, if◌then◌else◌, Option, Some, None, IfSome}
use Rattle.std.specs.Prelude.{Result, Ok, Err, ℤ, pos, neg_ℤ, ◌+ℤ◌, ◌*ℤ◌, ◌≤ℤ◌, ◌<ℤ◌, int_le, unsigned_abs}
use Rattle.std.specs.Ordering.{int_eq}
use Rattle.block_layout.specs.declared.kind.Kind.{Kind}
use Rattle.block_layout.specs.declared.place.SharedPtr.{SharedPtr}
use Rattle.block_layout.specs.Places.{in_range}
use Rattle.block_layout.specs.Pointers.{moved}
use Rattle.integers.specs.declared.operator.BinOp.{BinOp}
use Rattle.integers.specs.declared.operator.BinOp.TheVariants.{ShiftLeft, ShiftRight}
use Rattle.integers.specs.declared.operator.UnOp.{UnOp}
use Rattle.integers.specs.Integers.{converted, promoted}
use Rattle.integers.specs.Operators.{binary_of, unary_of, truth}
use Rattle.upc_types.specs.Arithmetic.{usual}
use Rattle.typing_rules.specs.declared.attribute.Static.{Static}
use Rattle.typing_rules.specs.declared.attribute.Static.TheVariants.{Private, Shared}
use Rattle.typing_rules.specs.declared.attribute.Element.{Element}
use Rattle.typing_rules.specs.declared.attribute.Constant.{Constant}
use Rattle.typing_rules.specs.declared.attribute.Constant.TheVariants.{Variable, Known, Undefined, Null, Address}
use Rattle.typing_rules.specs.declared.attribute.Form.{Form}
use Rattle.typing_rules.specs.declared.attribute.Form.TheVariants.{Lvalue}

-- An integer constant expression of value 0 (C99 6.3.2.3).
abbrev pub is_zero : Constant → Bool
is_zero (Known v) = int_eq v (pos 0)
is_zero c = false

-- An integer constant expression, whatever its value (C99 6.6).
abbrev pub is_integral : Constant → Bool
is_integral (Known v) = true
is_integral Undefined = true
is_integral c = false

-- A constant (C99 6.6): an integer constant expression, a null pointer or an address.
abbrev pub is_constant : Constant → Bool
is_constant Variable = false
is_constant c = true

-- A constant expression whose value is undefined, such as `1 / 0` (C99 6.5, 6.6).
abbrev pub is_undefined : Constant → Bool
is_undefined Undefined = true
is_undefined c = false

-- The integer constant that an operator gives; its value is undefined where the operator has no result (C99 6.5).
abbrev pub known_value : Result ℤ ℕ → Constant
known_value (Ok v) = Known v
known_value (Err code) = Undefined

-- An operator on one integer constant: its value is undefined where that of the operand is, and on anything else it
-- gives no constant (C99 6.6).
abbrev pub on_known : (ℤ → Constant) → Constant → Constant
on_known f (Known v) = f v
on_known f Undefined = Undefined
on_known f c = Variable

-- An operator on two integer constants: its value is undefined where that of one is, and on anything else it gives no
-- constant (C99 6.6).
abbrev pub on_both : (ℤ → ℤ → Constant) → Constant → Constant → Constant
on_both f (Known a) b = on_known (f a) b
on_both f Undefined b = on_known (λ v. Undefined) b
on_both f a b = Variable

-- The kind at which a binary operator works: that of the usual conversions, but of the left operand for a shift (C99
-- 6.3.1.8, 6.5.7).
abbrev pub working_kind : BinOp → Kind → Kind → Kind
working_kind ShiftLeft a b = promoted a
working_kind ShiftRight a b = promoted a
working_kind op a b = usual a b

-- The kind to which a binary operator converts its right operand: that of the usual conversions, but for a shift the
-- operand's own promoted kind (C99 6.3.1.8, 6.5.7).
abbrev pub right_kind : BinOp → Kind → Kind → Kind
right_kind ShiftLeft a b = promoted b
right_kind ShiftRight a b = promoted b
right_kind op a b = usual a b

-- A binary operator on two constants of these kinds (C99 6.5.5 to 6.5.12).
abbrev pub binary_constant : BinOp → Kind → Kind → Constant → Constant → Constant
binary_constant op a b x y =
    let kind = working_kind op a b in
    on_both (λ v w. known_value (binary_of op kind (converted kind v) (converted (right_kind op a b) w))) x y

-- A unary operator on a constant of this kind (C99 6.5.3.3).
abbrev pub unary_constant : UnOp → Kind → Constant → Constant
unary_constant op a x = on_known (λ v. known_value (unary_of op (promoted a) (converted (promoted a) v))) x

-- A constant, converted to an integer kind (C99 6.3.1.3).
abbrev pub cast_constant : Kind → Constant → Constant
cast_constant kind x = on_known (λ v. Known (converted kind v)) x

-- Whether an integer constant counts as true: 1 where it is not 0, else 0 (C99 6.5.13, 6.5.14).
abbrev pub truth_constant : Constant → Constant
truth_constant x = on_known (λ v. Known (truth (not (int_eq v (pos 0))))) x

-- This constant, where the operand that has no say in its value is an integer constant expression too; else none (C99
-- 6.6).
abbrev pub if_integral : Constant → Constant → Constant
if_integral x chosen = if is_integral x then chosen else Variable

-- `a && b`: where a is 0, b has no say (C99 6.5.13).
abbrev pub and_constant : Constant → Constant → Constant
and_constant (Known v) b =
    if int_eq v (pos 0)
    then if_integral b (Known (pos 0))
    else truth_constant b
and_constant Undefined b = if_integral b Undefined
and_constant a b = Variable

-- `a || b`: where a is not 0, b has no say (C99 6.5.14).
abbrev pub or_constant : Constant → Constant → Constant
or_constant (Known v) b =
    if int_eq v (pos 0)
    then truth_constant b
    else if_integral b (Known (pos 1))
or_constant Undefined b = if_integral b Undefined
or_constant a b = Variable

-- `test ? a : b` of integers at their common kind: what is not chosen has no say (C99 6.5.15).
abbrev pub choice_constant : Kind → Constant → Constant → Constant → Constant
choice_constant kind (Known v) a b =
    if is_integral a && is_integral b
    then (if int_eq v (pos 0) then cast_constant kind b else cast_constant kind a)
    else Variable
choice_constant kind Undefined a b = if is_integral a && is_integral b then Undefined else Variable
choice_constant kind test a b = Variable

-- A value of an integer kind: from -2^63 to 2^64 - 1.
pub record IsKindValue (v : ℤ) : Type 0 where
  pub low : neg_ℤ (pos (2 ^ 63)) ≤ℤ v
  pub high : v <ℤ pos (2 ^ 64)

-- The number that an integer constant is, where its value is defined (C99 6.6).
abbrev pub number_of : Constant → Option ℤ
number_of (Known v) = Some v
number_of c = None

-- A constant whose number, where it is one, is a value of an integer kind.
abbrev pub IsWithin : Constant → Type 0
IsWithin c = IfSome (number_of c) IsKindValue

-- The address of what an expression names, where that is known before the run (C99 6.6).
abbrev pub named_constant : Form → Constant
named_constant (Lvalue address) = address
named_constant f = Variable

-- The constant that stands for the address of what an expression names is, where it is a number, a value of an integer
-- kind.
abbrev pub NamesWithin : Form → Type 0
NamesWithin f = IsWithin (named_constant f)

-- ---- addresses (C99 6.6)

-- A pointer into a shared object by its number, with zeros in place of what is the same for the whole object.
abbrev pub pointer_into : ℕ → ℕ → ℕ → ℤ → SharedPtr
pointer_into object thread phase offset = record {
  object = record { number = object; total = 0; block = 0; home = 0; shape = 0; base = 0 };
  thread = thread;
  phase = phase;
  offset = offset;
}

-- The place to which a pointer into the shared object with this number leads, as it is known before the run (C99 6.6).
abbrev pub static_of : ℕ → SharedPtr → Static
static_of object p = Shared object p.thread p.phase p.offset

-- The byte offset of a place that is known before the run.
abbrev pub static_offset : Static → ℤ
static_offset (Private object offset) = offset
static_offset (Shared object thread phase offset) = offset

-- An object that is no element of an array counts as the first element of an array of one (C99 6.5.6).
abbrev pub alone : Element
alone = record { index = 0; count = 1 }

-- The element i places after another of its array, up to the place after the last one (C99 6.5.6).
abbrev pub element_behind : Element → ℤ → Option Element
element_behind e i =
    let at = pos e.index +ℤ i in
    if int_le (pos 0) at && int_le at (pos e.count)
    then Some record { index = unsigned_abs at; count = e.count }
    else None

-- The address of an array of that many elements is that of its first one (C99 6.3.2.1).
abbrev pub first_element : ℕ → Constant → Constant
first_element count (Address p e) = Address p (record { index = 0; count = count })
first_element count c = c

-- The address of a place, which is undefined where its offset is out of range.
abbrev pub ranged : Element → Static → Constant
ranged e p = if in_range (static_offset p) then Address p e else Undefined

-- The address of a place, which is undefined where no element of its array is there or its offset is out of range (C99
-- 6.5.6).
abbrev pub ranged_at : Option Element → Static → Constant
ranged_at None p = Undefined
ranged_at (Some e) p = ranged e p

-- What a step that leads to no place gives: an undefined value from a pointer constant, and no constant from anything
-- else (C99 6.5.6).
abbrev pub lost_behind : Constant → Constant
lost_behind (Address p e) = Undefined
lost_behind Null = Undefined
lost_behind Undefined = Undefined
lost_behind c = Variable

-- The block size of a shared type, and 0, which stands for an indefinite block, of a type that is not shared (UPC
-- 6.5.1.1).
abbrev pub block_or_none : Option ℕ → ℕ
block_or_none None = 0
block_or_none (Some block) = block

-- The place i leaf elements after another, where these have this block and this size (UPC 6.4.2).
abbrev pub stepped : ℕ → Option ℕ → ℕ → Static → ℤ → Static
stepped threads block size (Private object offset) i = Private object (offset +ℤ i *ℤ pos size)
stepped threads block size (Shared object thread phase offset) i =
    static_of object (moved (pointer_into object thread phase offset) i (block_or_none block) size threads)

-- The address i elements after another, where an element consists of `leaves` leaf elements. It is undefined outside
-- their array, and after null (C99 6.5.6, UPC 6.4.2).
abbrev pub address_plus : ℕ → Option ℕ → (size leaves : ℕ) → Constant → ℤ → Constant
address_plus threads block size leaves (Address p e) i =
    ranged_at (element_behind e i) (stepped threads block size p (i *ℤ pos leaves))
address_plus threads block size leaves c i = lost_behind c

-- The place of a member with this offset: a member of a shared object has an indefinite block (UPC 6.4.4).
abbrev pub member_place : ℕ → Static → Static
member_place bytes (Private object offset) = Private object (offset +ℤ pos bytes)
member_place bytes (Shared object thread phase offset) = Shared object thread 0 (offset +ℤ pos bytes)

-- The address of a place after a cast: to another block it has phase 0, and from shared to private it is not known
-- before the run (UPC 6.4.3).
abbrev pub cast_place : Option ℕ → Option ℕ → Element → Static → Constant
cast_place from into e (Private object offset) = Address (Private object offset) e
cast_place None into e (Shared object thread phase offset) = Variable
cast_place (Some b) None e (Shared object thread phase offset) = Variable
cast_place (Some b) (Some c) e (Shared object thread phase offset) =
    Address (Shared object thread (if b == c then phase else 0) offset) e

-- A constant after a cast to a pointer: the constant 0 becomes null, and an address is cast to the block of what the
-- pointer leads to (C99 6.3.2.3, UPC 6.4.3).
abbrev pub cast_address : Option ℕ → Option ℕ → Constant → Constant
cast_address from into (Address p e) = cast_place from into e p
cast_address from into (Known v) = if int_eq v (pos 0) then Null else Variable
cast_address from into Null = Null
cast_address from into Undefined = Undefined
cast_address from into Variable = Variable
