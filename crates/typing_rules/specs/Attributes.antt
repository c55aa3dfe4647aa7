-- What each expression is to the node above it (C99 6.5, UPC 6.4).
use Rattle.std.specs.Prelude.{ℕ, ◌+◌, ◌-◌, ◌*◌, ◌/◌, ◌==◌, nat_eq, Bool, ◌||◌, if◌then◌else◌, List, []}
use Rattle.std.specs.Prelude.{◌∷◌, Option, Some, None, ℤ, pos, neg_ℤ}
use Rattle.std.specs.Cmp.Lexicographic.{pointwise}
use Rattle.block_layout.specs.declared.kind.Kind.{Kind}
use Rattle.block_layout.specs.declared.kind.Kind.TheVariants as kind
use Rattle.integers.specs.declared.operator.BinOp.{BinOp}
use Rattle.integers.specs.declared.operator.BinOp.TheVariants as op
use Rattle.integers.specs.declared.operator.UnOp.{UnOp}
use Rattle.integers.specs.Operators.{binary_kind, unary_kind}
use Rattle.upc_types.specs.declared.ctype.Access.{Access}
use Rattle.upc_types.specs.Types.{CType, Qualified, Base, Array, Pointer, base_of, block_of, Member, Structs}
use Rattle.upc_types.specs.Types.{members_of}
use Rattle.upc_types.specs.Layout.{size, member_offset}
use Rattle.upc_types.specs.Arithmetic.{usual}
use Rattle.integers.specs.Integers.{promoted}
use Rattle.typing_rules.specs.declared.setting.Home.{Home}
use Rattle.typing_rules.specs.declared.setting.Home.TheVariants as home
use Rattle.typing_rules.specs.declared.setting.SizeOperator.{SizeOperator}
use Rattle.typing_rules.specs.declared.setting.SizeOperator.TheVariants.{Bytes, LocalBytes, BlockSize, ElementBytes}
use Rattle.typing_rules.specs.declared.attribute.Static.TheVariants as static
use Rattle.typing_rules.specs.declared.attribute.Constant.{Constant}
use Rattle.typing_rules.specs.declared.attribute.Constant.TheVariants.{Variable, Known, Undefined, Address}
use Rattle.typing_rules.specs.declared.attribute.Form.{Form}
use Rattle.typing_rules.specs.declared.attribute.Form.TheVariants.{Value, Lvalue, Callable, Text}
use Rattle.upc_values.specs.declared.library.LibraryCall.{LibraryCall}
use Rattle.typing_rules.specs.Library.{plain, int, constant_value, call_result, is_allocation}
use Rattle.typing_rules.specs.Values.{value_base, value_type, plainly, base_kind, base_target}
use Rattle.typing_rules.specs.Values.{base_struct}
use Rattle.typing_rules.specs.Meanings as meanings
use Rattle.typing_rules.specs.Meanings.{Meaning}
use Rattle.typing_rules.specs.Constants.{working_kind, on_known, binary_constant, unary_constant, cast_constant}
use Rattle.typing_rules.specs.Constants.{and_constant, or_constant, choice_constant, ranged, address_plus, alone}
use Rattle.typing_rules.specs.Constants.{member_place, cast_address, block_or_none, first_element, lost_behind}
use Rattle.typing_rules.specs.Nodes as nodes
use Rattle.typing_rules.specs.Nodes.{Attr, Use, Node}
use Rattle.upc_types.specs.Cells.{leaf_base, leaves}

-- What every node may look at: the structs that are declared so far, and the number of threads.
pub record Facts : Type 0 where
  pub structs : Structs
  pub threads : ℕ

-- A value of this type, which is no constant.
abbrev pub value : CType → Attr
value t = record { ctype = t; form = Value; constant = Variable }

-- A value of this integer kind, with what it is as a constant.
abbrev pub constant : Kind → Constant → Attr
constant k c = record { ctype = plain k; form = Value; constant = c }

-- An integer constant of this kind, with this value (C99 6.6).
abbrev pub known : Kind → ℤ → Attr
known k v = constant k (Known v)

-- The address of what an expression names, where that is known before the run (C99 6.6).
abbrev pub address_in : Form → Constant
address_in (Lvalue address) = address
address_in f = Variable

-- The type of an expression's value, without qualifiers.
abbrev pub base : Attr → Base
base a = value_base (base_of a.ctype)

-- What an expression of this type is as a constant: an array is the address of its first element (C99 6.3.2.1, 6.6).
abbrev pub value_constant : Base → Attr → Constant
value_constant (Array element count) a = first_element count (address_in a.form)
value_constant b a = a.constant

-- What the value of an expression is as a constant; an array is the address of its first element (C99 6.3.2.1, 6.6).
abbrev pub constant_of : Attr → Constant
constant_of a = value_constant (base_of a.ctype) a

-- ---- names (C99 6.5.1)

-- The address of an object by its home: a constant for an object of the file, and none for one of a function (C99 6.6).
abbrev pub home_address : Home → Constant
home_address (home.Private object) = Address (static.Private object (pos 0)) alone
home_address (home.Shared object) = Address (static.Shared object 0 0 (pos 0)) alone
home_address (home.Local object) = Variable

-- What a name is as an expression: an object is an lvalue, a function is what can be called, and a named constant of
-- the library is an int (C99 6.5.1, UPC 7.3).
abbrev pub named : Meaning → Attr
named meanings.Unknown = value int
named (meanings.Object t place) = record { ctype = t; form = Lvalue (home_address place); constant = Variable }
named (meanings.Function signature) = record { ctype = int; form = Callable; constant = Variable }
named (meanings.Library call) = record { ctype = int; form = Callable; constant = Variable }
named (meanings.Named c) = known kind.Int (pos (constant_value c))

-- ---- what pointers lead to (C99 6.5.2.1, 6.5.3.2)

-- The object to which a pointer with this target leads, as an lvalue at this address (C99 6.5.3.2).
abbrev pub object_at : Option CType → Constant → Attr
object_at None address = value int
object_at (Some t) address = record { ctype = t; form = Lvalue address; constant = Variable }

-- The address i objects of type t after another (C99 6.5.6, UPC 6.4.2).
abbrev pub address_behind : Facts → CType → Constant → ℤ → Constant
address_behind φ t address i =
    address_plus φ.threads (block_of t) (size φ.structs (plainly (leaf_base (base_of t)))) (leaves (base_of t))
    address i

-- The address that many objects of type t after another, where their number is a constant (C99 6.5.6, 6.6).
abbrev pub indexed : Facts → CType → Constant → Constant → Constant
indexed φ t address (Known i) = address_behind φ t address i
indexed φ t address Undefined = lost_behind address
indexed φ t address c = Variable

-- The address of the element that a subscript names, where the array or pointer and the index are constants (C99
-- 6.5.2.1, 6.6).
abbrev pub element_address : Facts → Attr → Attr → Option CType → Constant
element_address φ a i None = Variable
element_address φ a i (Some t) = indexed φ t (constant_of a) i.constant

-- ---- members (C99 6.5.2.3, UPC 6.4.4)

-- A member that a struct has under a name: its number from 0, its offset in bytes, and its type (C99 6.7.2.1).
pub record Found : Type 0 where
  pub index : ℕ
  pub offset : ℕ
  pub ctype : CType

-- The first of these members with this name, where they are those of the struct with this number from number `index`
-- on (C99 6.7.2.1).
abbrev pub find_member : Structs → (number index : ℕ) → List Member → List ℕ → Option Found
find_member structs number index [] name = None
find_member structs number index (x ∷ xs) name =
    if pointwise nat_eq x.name name
    then Some record { index = index; offset = member_offset structs number index; ctype = x.ctype }
    else find_member structs number (index + 1) xs name

-- The member with this name of the struct with this number, where both exist (C99 6.5.2.3).
abbrev pub member_of : Structs → Option ℕ → List ℕ → Option Found
member_of structs None name = None
member_of structs (Some number) name = find_member structs number 0 (members_of structs number) name

-- A member of a struct of type t, by its name (C99 6.5.2.3).
abbrev pub member_named : Structs → CType → List ℕ → Option Found
member_named structs t name = member_of structs (base_struct (base_of t)) name

-- The number of a member that is found, 0 where none is.
abbrev pub found_index : Option Found → ℕ
found_index None = 0
found_index (Some x) = x.index

-- The number of a member, by its name, of the struct to which a pointer leads (C99 6.5.2.3).
abbrev pub target_index : Structs → Option CType → List ℕ → ℕ
target_index structs None name = 0
target_index structs (Some t) name = found_index (member_named structs t name)

-- A member of a shared object is shared with an indefinite block (UPC 6.4.4).
abbrev pub member_block : Option ℕ → Option ℕ
member_block None = None
member_block (Some block) = Some 0

-- The type of a member, seen without its qualifiers: what qualifies the struct qualifies the elements of an array too
-- (C99 6.7.3, UPC 6.4.4).
abbrev pub spread : Bool → Option ℕ → Access → Base → Base
spread c s x (Array (Qualified e d t y) count) = Array (Qualified (spread c s x e) (c || d) (member_block s) x) count
spread c s x b = b

-- The type of a member of an object of a struct type: const where the member or the struct is, and shared, strict or
-- relaxed as the struct is (C99 6.5.2.3, UPC 6.4.4).
abbrev pub member_type : CType → CType → CType
member_type (Qualified struct c s x) (Qualified b d t y) = Qualified (spread c s x b) (c || d) (member_block s) x

-- The address of a member by its offset in a struct at this address; the member is no element of an array (C99 6.5.2.3,
-- 6.5.6).
abbrev pub member_address : Constant → ℕ → Constant
member_address (Address p e) offset = ranged alone (member_place offset p)
member_address c offset = lost_behind c

-- A member that is found in an object of type t at this address, as an lvalue (C99 6.5.2.3).
abbrev pub member_at : CType → Constant → Option Found → Attr
member_at t address None = value int
member_at t address (Some x) =
    record { ctype = member_type t x.ctype; form = Lvalue (member_address address x.offset); constant = Variable }

-- The member with this name of the struct to which a pointer leads, as an lvalue: `p->m` (C99 6.5.2.3).
abbrev pub member_behind : Structs → Option CType → Constant → List ℕ → Attr
member_behind structs None address name = value int
member_behind structs (Some t) address name = member_at t address (member_named structs t name)

-- ---- calls (C99 6.5.2.2)

-- The type of an allocation call's result: that into which the node above converts it (UPC 7.2.2).
abbrev pub allocated : Use → CType
allocated (nodes.Into t) = value_type t
allocated how = int

-- The type of what a call of the library gives: for an allocation that into which it is converted, for any other call
-- its own (C99 7.19.6.3; UPC 7.2, 7.3).
abbrev pub library_given : Use → LibraryCall → CType
library_given how call = if is_allocation call then allocated how else call_result call

-- The type of what a call gives, without qualifiers of its own (C99 6.5.2.2).
abbrev pub given : Use → Meaning → CType
given how (meanings.Function signature) = value_type signature.result
given how (meanings.Library call) = library_given how call
given how meaning = int

-- ---- sizes (C99 6.5.3.4, UPC 6.4.1)

-- The least number of parts of d that cover n, for d of at least 1.
abbrev pub parts : ℕ → ℕ → ℕ
parts n d = (n + (d - 1)) / d

-- The bytes that an array takes on each thread at most, where each has a part of whole blocks; all where the block is
-- indefinite (UPC 6.4.1).
abbrev pub local_bytes : ℕ → ℕ → ℕ → ℕ → ℕ
local_bytes threads elements block bytes =
    if block == 0 then elements * bytes else parts (parts elements block) threads * block * bytes

-- The number that a size operator gives for a type: its bytes, its bytes on one thread at most, its block size, or the
-- bytes of a leaf element (C99 6.5.3.4, UPC 6.4.1).
abbrev pub measured : Facts → SizeOperator → CType → ℕ
measured φ Bytes t = size φ.structs t
measured φ BlockSize t = block_or_none (block_of t)
measured φ ElementBytes t = size φ.structs (plainly (leaf_base (base_of t)))
measured φ LocalBytes t =
    local_bytes φ.threads (leaves (base_of t)) (block_or_none (block_of t))
    (size φ.structs (plainly (leaf_base (base_of t))))

-- What a size operator gives for an operand of this type: a constant of type size_t, which is unsigned long (C99
-- 6.5.3.4, UPC 6.4.1).
abbrev pub size_attr : Facts → SizeOperator → CType → Attr
size_attr φ o t = known kind.ULong (pos (measured φ o t))

-- ---- operators (C99 6.5.3.3, 6.5.4 to 6.5.17)

-- What a unary operator gives: an int for `!`, else a value of its operand's promoted kind (C99 6.5.3.3).
abbrev pub unary_attr : UnOp → Option Kind → Constant → Attr
unary_attr o None c = value int
unary_attr o (Some k) c = constant (unary_kind o (promoted k)) (unary_constant o k c)

-- The block size of what a pointer leads to, where that is shared (UPC 6.5.1.1).
abbrev pub target_block : Option CType → Option ℕ
target_block None = None
target_block (Some t) = block_of t

-- A pointer constant after a cast to a pointer with this target; what is cast to void is no constant (C99 6.5.4, UPC
-- 6.4.3).
abbrev pub cast_pointer : Option CType → Attr → Constant
cast_pointer None a = Variable
cast_pointer (Some t) a = cast_address (target_block (base_target (base a))) (block_of t) (constant_of a)

-- What a cast to the type t gives as a constant: an integer of its kind, or a pointer with its target (C99 6.5.4, 6.6).
abbrev pub cast_by : CType → Option Kind → Attr → Constant
cast_by t (Some k) a = cast_constant k a.constant
cast_by t None a = cast_pointer (base_target (base_of t)) a

-- What a cast to the type t gives: a value of this type (C99 6.5.4).
abbrev pub cast_attr : CType → Attr → Attr
cast_attr t a = record { ctype = t; form = Value; constant = cast_by t (base_kind (base_of t)) a }

-- The pointer that many objects of type t after another (C99 6.5.6, UPC 6.4.2).
abbrev pub pointer_attr : Facts → CType → Constant → Constant → Attr
pointer_attr φ t address steps =
    record { ctype = plainly (Pointer t); form = Value; constant = indexed φ t address steps }

-- An integer constant with its sign turned: to subtract it from a pointer is to add this (C99 6.5.6).
abbrev pub negated : Constant → Constant
negated c = on_known (λ v. Known (neg_ℤ v)) c

-- What a binary operator gives that steps no pointer: an int for a comparison, else a value of the kind at which it
-- works (C99 6.5.5 to 6.5.12).
abbrev pub arithmetic_attr : BinOp → Option Kind → Option Kind → Constant → Constant → Attr
arithmetic_attr o (Some a) (Some b) x y = constant (binary_kind o (working_kind o a b)) (binary_constant o a b x y)
arithmetic_attr o a b x y = value int

-- What `a + b` gives: a pointer where one of the two is a pointer, else the sum of two integers (C99 6.5.6).
abbrev pub sum_attr : Facts → Attr → Attr → Option CType → Option CType → Attr
sum_attr φ a b (Some t) u = pointer_attr φ t (constant_of a) b.constant
sum_attr φ a b None (Some u) = pointer_attr φ u (constant_of b) a.constant
sum_attr φ a b None None = arithmetic_attr op.Add (base_kind (base a)) (base_kind (base b)) a.constant b.constant

-- What `a - b` gives: of two pointers a ptrdiff_t, which is long; else a pointer where a is one, or the difference of
-- two integers (C99 6.5.6).
abbrev pub difference_attr : Facts → Attr → Attr → Option CType → Option CType → Attr
difference_attr φ a b (Some t) (Some u) = value (plain kind.Long)
difference_attr φ a b (Some t) None = pointer_attr φ t (constant_of a) (negated b.constant)
difference_attr φ a b None u =
    arithmetic_attr op.Subtract (base_kind (base a)) (base_kind (base b)) a.constant b.constant

-- What a binary operator gives for its two operands (C99 6.5.5 to 6.5.12).
abbrev pub binary_attr : Facts → BinOp → Attr → Attr → Attr
binary_attr φ op.Add a b = sum_attr φ a b (base_target (base a)) (base_target (base b))
binary_attr φ op.Subtract a b = difference_attr φ a b (base_target (base a)) (base_target (base b))
binary_attr φ o a b = arithmetic_attr o (base_kind (base a)) (base_kind (base b)) a.constant b.constant

-- What `test ? a : b` gives where not both are integers: a value of the type of a where a is a pointer, else of that of
-- b (C99 6.5.15).
abbrev pub other_choice : Attr → Attr → Option CType → Attr
other_choice a b (Some t) = value (value_type a.ctype)
other_choice a b None = value (value_type b.ctype)

-- What `test ? a : b` gives: a value of the common kind of two integers, else of the type of the pointer among them,
-- else of type void (C99 6.5.15).
abbrev pub choice_attr : Constant → Attr → Attr → Option Kind → Option Kind → Option CType → Attr
choice_attr test a b (Some j) (Some k) t = constant (usual j k) (choice_constant (usual j k) test a.constant b.constant)
choice_attr test a b j k t = other_choice a b t

-- What a node is to the node above it; where it breaks a rule, that is never asked (C99 6.5, 6.6; UPC 6.4).
abbrev pub attr : Facts → Node → Attr
attr φ (nodes.Name how meaning) = named meaning
attr φ (nodes.Number k v) = known k (pos v)
attr φ (nodes.Character v) = known kind.Int (pos v)
attr φ (nodes.Strings how) = record { ctype = int; form = Text; constant = Variable }
attr φ nodes.Mythread = value int
attr φ (nodes.Threads threads) = known kind.Int (pos threads)
attr φ nodes.MaxBlockSize = known kind.Int (pos 16777216)
attr φ (nodes.Subscript how a i) = object_at (base_target (base a)) (element_address φ a i (base_target (base a)))
attr φ (nodes.Call how meaning runs format args) = value (given how meaning)
attr φ (nodes.MemberOf a name) = member_at a.ctype (address_in a.form) (member_named φ.structs a.ctype name)
attr φ (nodes.MemberBehind a name) = member_behind φ.structs (base_target (base a)) (constant_of a) name
attr φ (nodes.Step a) = value (value_type a.ctype)
attr φ (nodes.Address a) = record { ctype = plainly (Pointer a.ctype); form = Value; constant = address_in a.form }
attr φ (nodes.Dereference a) = object_at (base_target (base a)) (constant_of a)
attr φ (nodes.Unary o a) = unary_attr o (base_kind (base a)) a.constant
attr φ (nodes.SizeOf o a) = size_attr φ o a.ctype
attr φ (nodes.SizeOfType o t) = size_attr φ o t.ctype
attr φ (nodes.Cast t a) = cast_attr (value_type t.ctype) a
attr φ (nodes.Binary o a b) = binary_attr φ o a b
attr φ (nodes.And a b) = constant kind.Int (and_constant a.constant b.constant)
attr φ (nodes.Or a b) = constant kind.Int (or_constant a.constant b.constant)
attr φ (nodes.Assign a b) = value (value_type a.ctype)
attr φ (nodes.Compound o a b) = value (value_type a.ctype)
attr φ (nodes.Conditional test a b) =
    choice_attr test.constant a b (base_kind (base a)) (base_kind (base b)) (base_target (base a))
attr φ (nodes.Comma last) = value (value_type last.ctype)
attr φ x = value int
