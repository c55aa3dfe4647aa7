-- The typing rules, each a test on a node and what its children are: whether the node breaks it. docs/LANGUAGE.md
-- lists them, and docs/ERRORS.md has a program for each.
use Rattle.std.specs.Prelude.{◌≡◌, ℕ, nat_eq, nat_lt, nat_le, Bool, true, false, ◌&&◌, ◌||◌, not, List, [], ◌∷◌, map}
use Rattle.std.specs.Prelude.{length, IsTrue, ◌⊎◌, Option, Some, None, is_some, ℤ, pos, int_le}
use Rattle.std.specs.List.{list_any}
use Rattle.std.specs.Ordering.{int_eq}
use Rattle.std.specs.Cmp.Lexicographic.{pointwise}
use Rattle.block_layout.specs.declared.kind.Kind.{Kind}
use Rattle.integers.specs.declared.operator.BinOp.{BinOp}
use Rattle.integers.specs.declared.operator.BinOp.TheVariants.{Add, Subtract, Less, Greater, LessEqual}
use Rattle.integers.specs.declared.operator.BinOp.TheVariants.{GreaterEqual, Equal, NotEqual}
use Rattle.integers.specs.declared.operator.UnOp.{UnOp}
use Rattle.integers.specs.declared.operator.UnOp.TheVariants.{Not}
use Rattle.integers.specs.Integers.{converted, promoted}
use Rattle.upc_types.specs.Types as types
use Rattle.upc_types.specs.Types.{CType, Base, Array, base_of, is_constant, Structs, members_of}
use Rattle.upc_types.specs.Layout.{is_complete, size, base_within, most_bytes, holds_private}
use Rattle.upc_types.specs.Same.{same_type, is_lock_object}
use Rattle.upc_types.specs.Conversions.{is_integer, assignable, castable, takes_allocation, to_shared_void}
use Rattle.upc_types.specs.Conversions.{to_void_pointer}
use Rattle.typing_rules.specs.declared.setting.SizeOperator.{SizeOperator}
use Rattle.typing_rules.specs.declared.setting.SizeOperator.TheVariants.{Bytes}
use Rattle.typing_rules.specs.declared.setting.Enclosing.{Enclosing}
use Rattle.typing_rules.specs.declared.setting.Enclosing.TheVariants as around
use Rattle.upc_values.specs.declared.library.LibraryCall.{LibraryCall}
use Rattle.upc_values.specs.declared.library.LibraryCall.TheVariants.{Printf}
use Rattle.typing_rules.specs.declared.library.LibraryParameter.{LibraryParameter}
use Rattle.typing_rules.specs.declared.library.LibraryParameter.TheVariants as library_parameter
use Rattle.typing_rules.specs.declared.attribute.Constant.{Constant}
use Rattle.typing_rules.specs.declared.attribute.Constant.TheVariants.{Known}
use Rattle.typing_rules.specs.declared.attribute.Form.{Form}
use Rattle.typing_rules.specs.declared.attribute.Form.TheVariants.{Lvalue}
use Rattle.typing_rules.specs.Library.{call_parameters, is_allocation}
use Rattle.typing_rules.specs.Values.{value_type, plainly, is_void, is_array, is_struct, is_lock, is_shared, present}
use Rattle.typing_rules.specs.Values.{base_kind, base_target, is_nested, is_no_object, equal_targets}
use Rattle.typing_rules.specs.Meanings.{Meaning, Unknown, Object, Function, Library, Signature}
use Rattle.typing_rules.specs.Constants as constants
use Rattle.typing_rules.specs.Format.{prints}
use Rattle.typing_rules.specs.Attributes.{Facts, base, constant_of}
use Rattle.typing_rules.specs.Nodes.{Attr, Use, Called, Indexed, Measured, Prints, Into, Formed, Node, Name, Strings}
use Rattle.typing_rules.specs.Nodes.{Subscript, Call, MemberOf, MemberBehind, Step, Address, Dereference, Unary}
use Rattle.typing_rules.specs.Nodes.{SizeOf, SizeOfType, Cast, Binary, And, Or, Assign, Compound, Conditional, Comma}
use Rattle.typing_rules.specs.Nodes.{Constantly, Block, StarBlock, Specifies, Struct, Member, MemberFunction}
use Rattle.typing_rules.specs.Nodes.{DeclaresObject, DeclaresFunction, Parameter, InitialValue, InitialList, Defines}
use Rattle.typing_rules.specs.Nodes.{File, Tests, Switch, Affinity, Break, Continue, Returns, ReturnsNothing}
use Rattle.typing_rules.specs.Nodes.{Barrier}
use Rattle.upc_types.specs.Cells.{leaf_base}

-- ---- words of the rules

-- The value is an integer (C99 6.2.5).
abbrev pub counts : Attr → Bool
counts a = is_integer (base a)

-- What the value points to, if it is a pointer.
abbrev pub target : Attr → Option CType
target a = base_target (base a)

-- The value is a pointer (C99 6.2.5).
abbrev pub points : Attr → Bool
points a = present (target a)

-- The value is an integer or a pointer (C99 6.2.5).
abbrev pub is_scalar : Attr → Bool
is_scalar a = counts a || points a

-- The value is neither an integer nor a pointer, and so is no condition (C99 6.8.4.1, 6.8.5).
abbrev pub is_no_condition : Attr → Bool
is_no_condition a = not (is_scalar a)

-- The expression is of type void, and so has no value (C99 6.3.2.2).
abbrev pub gives_void : Attr → Bool
gives_void a = is_void a.ctype

-- The value is the constant 0 (C99 6.3.2.3).
abbrev pub is_zero : Attr → Bool
is_zero a = constants.is_zero a.constant

-- The value converts into the type without a cast (C99 6.5.16.1, UPC 6.4.3).
abbrev pub converts : Attr → CType → Bool
converts a t = assignable (value_type a.ctype) t (is_zero a)

-- The value converts into the type with a cast (C99 6.5.4, UPC 6.4.3).
abbrev pub casts : Attr → CType → Bool
casts a t = castable (value_type a.ctype) t (is_zero a)

-- An expression of this form names an object (C99 6.3.2.1).
abbrev pub form_is_lvalue : Form → Bool
form_is_lvalue (Lvalue address) = true
form_is_lvalue f = false

-- The expression names an object (C99 6.3.2.1).
abbrev pub is_lvalue : Attr → Bool
is_lvalue a = form_is_lvalue a.form

-- The expression names an object that can be assigned to (C99 6.3.2.1).
abbrev pub is_modifiable : Attr → Bool
is_modifiable a = is_lvalue a && not (is_array a.ctype || (is_struct a.ctype || is_constant a.ctype))

-- A type has a size: it is complete, and has no more bytes than an object can have. One with more is refused where it
-- is formed.
abbrev pub has_size : Structs → CType → Bool
has_size structs t = is_some (base_within structs.completed (base_of t))

-- There is a pointer's target, and it has no size: void, an incomplete type or a lock (C99 6.5.6).
abbrev pub is_loose_target : Structs → Option CType → Bool
is_loose_target structs None = false
is_loose_target structs (Some t) = not (has_size structs t)

-- The value is a pointer to void, to an incomplete type or to a lock (C99 6.5.6).
abbrev pub is_loose : Structs → Attr → Bool
is_loose structs a = is_loose_target structs (target a)

-- There is a pointer's target, and it is void or a lock.
abbrev pub target_is_empty : Option CType → Bool
target_is_empty None = false
target_is_empty (Some t) = is_no_object (base_of t)

-- The value is a pointer to void or to a lock.
abbrev pub leads_nowhere : Attr → Bool
leads_nowhere a = target_is_empty (target a)

-- An array of arrays may stand here with fewer subscripts than dimensions (C99 6.5.2.1).
abbrev pub takes_rows : Use → Bool
takes_rows Indexed = true
takes_rows Measured = true
takes_rows how = false

-- The node above calls the expression (C99 6.5.2.2).
abbrev pub is_called : Use → Bool
is_called Called = true
is_called how = false

-- There is a pointer's target, and it is an array (C99 6.5.2.1).
abbrev pub target_is_array : Option CType → Bool
target_is_array None = false
target_is_array (Some t) = is_array t

-- This is no integer constant of at least 1, as an array size has to be (C99 6.7.5.2).
abbrev pub is_no_array_size : Constant → Bool
is_no_array_size (Known v) = not (int_le (pos 1) v)
is_no_array_size k = true

-- This is an integer constant from 0 to UPC_MAX_BLOCK_SIZE, as a block size has to be (UPC 6.5.1.1).
abbrev pub is_block_size : Constant → Bool
is_block_size (Known v) = int_le (pos 0) v && int_le v (pos 16777216)
is_block_size k = false

-- The type, seen without its qualifiers, is a struct that is not complete (C99 6.7.2.3).
abbrev pub base_lacks_members : Structs → Base → Bool
base_lacks_members structs (types.Struct number) = not (is_complete structs (plainly (types.Struct number)))
base_lacks_members structs b = false

-- The type, or of an array its leaf element, is a struct that is not complete (C99 6.7.2.3).
abbrev pub lacks_members : Structs → CType → Bool
lacks_members structs t = base_lacks_members structs (leaf_base (base_of t))

-- The type has more bytes than an object can have.
abbrev pub is_too_large : Structs → CType → Bool
is_too_large structs t = is_complete structs t && not (nat_le (size structs t) most_bytes)

-- One of the array sizes is no integer constant of at least 1, or there are more than three (C99 6.7.5.2).
abbrev pub has_wrong_dimensions : Formed → Bool
has_wrong_dimensions t = list_any is_no_array_size t.sizes || nat_lt 3 (length t.sizes)

-- An array size is no integer constant of at least 1, there are more than three, or the type has more bytes than an
-- object can have (C99 6.7.5.2).
abbrev pub has_wrong_sizes : Structs → Formed → Bool
has_wrong_sizes structs t = has_wrong_dimensions t || is_too_large structs t.ctype

-- The type of a leaf element of an array, or another type itself, seen without its qualifiers.
abbrev pub leaf : CType → Base
leaf t = leaf_base (base_of t)

-- An object of this type, or an element of it, would be void or a lock without a pointer.
abbrev pub declares_nothing : CType → Bool
declares_nothing t = is_no_object (leaf t)

-- The type of a parameter is a struct, with any qualifiers (C99 6.2.5).
abbrev pub is_struct_type : CType → Bool
is_struct_type t = is_struct t

-- An object of this type is shared and holds a pointer to a private object.
abbrev pub shares_private : Structs → CType → Bool
shares_private structs t = is_shared t && holds_private structs t

-- The type is that of a lock, or of an array of locks.
abbrev pub is_lock_leaf : CType → Bool
is_lock_leaf t = is_lock_object (leaf t)

-- A struct is among the result and the parameters of a function (C99 6.7.5.3).
abbrev pub passes_struct : Signature → Bool
passes_struct s = is_struct s.result || list_any is_struct_type s.parameters

-- ---- arguments

-- The type is that of a lock that is neither const nor shared (UPC 7.2.4).
abbrev pub leads_to_lock : CType → Bool
leads_to_lock t = is_lock t && not (is_shared t) && not (is_constant t)

-- There is a pointer's target, and it is a lock that is neither const nor shared (UPC 7.2.4).
abbrev pub target_leads_to_lock : Option CType → Bool
target_leads_to_lock None = false
target_leads_to_lock (Some t) = leads_to_lock t

-- A parameter of the library takes the argument (UPC 7.2, 7.3). Whether the function of a reduction is the constant 0
-- is judged elsewhere.
abbrev pub takes : LibraryParameter → Attr → Bool
takes library_parameter.SharedPointer a = to_shared_void (base a) (is_zero a)
takes library_parameter.PrivatePointer a = to_void_pointer (base a) (is_zero a)
takes library_parameter.LockPointer a = target_leads_to_lock (target a) || is_zero a && counts a
takes library_parameter.Size a = counts a
takes library_parameter.Int a = counts a
takes library_parameter.NoFunction a = not (gives_void a)

-- Each argument converts into the type of its parameter; those that are too many are judged elsewhere (C99 6.5.2.2).
abbrev pub all_convert : List Attr → List CType → Bool
all_convert (a ∷ args) (t ∷ ts) = converts a t && all_convert args ts
all_convert args ts = true

-- The first argument, if there is one, converts into this type (C99 6.5.2.2).
abbrev pub first_converts : List Attr → CType → Bool
first_converts [] t = true
first_converts (a ∷ args) t = converts a t

-- Each argument is taken by its parameter of the library; those that are too many are judged elsewhere (UPC 7.2, 7.3).
abbrev pub all_taken : List Attr → List LibraryParameter → Bool
all_taken (a ∷ args) (x ∷ xs) = takes x a && all_taken args xs
all_taken args xs = true

-- The first argument, if there is one, is taken by this parameter of the library (UPC 7.2, 7.3).
abbrev pub first_taken : List Attr → LibraryParameter → Bool
first_taken [] x = true
first_taken (a ∷ args) x = takes x a

-- An argument that stands for the function of a reduction is the constant 0 (UPC 7.3).
abbrev pub no_function : LibraryParameter → Attr → Bool
no_function library_parameter.NoFunction a = is_zero a
no_function x a = true

-- Each argument that stands for the function of a reduction is the constant 0 (UPC 7.3).
abbrev pub no_functions : List Attr → List LibraryParameter → Bool
no_functions (a ∷ args) (x ∷ xs) = no_function x a && no_functions args xs
no_functions args xs = true

-- The first argument, if there is one and it stands for the function of a reduction, is the constant 0 (UPC 7.3).
abbrev pub first_is_no_function : List Attr → LibraryParameter → Bool
first_is_no_function [] x = true
first_is_no_function (a ∷ args) x = no_function x a

-- A call of the library takes the arguments by their types; printf takes any but those of type void, and its format
-- judges the rest (C99 7.19.6.3; UPC 7.2, 7.3).
abbrev pub library_passes : LibraryCall → List Attr → Bool
library_passes Printf args = not (list_any gives_void args)
library_passes call args = all_taken args (call_parameters call)

-- What is called takes the arguments by their types; what is no function is judged elsewhere (C99 6.5.2.2).
abbrev pub passes : Meaning → List Attr → Bool
passes (Function s) args = all_convert args s.parameters
passes (Library call) args = library_passes call args
passes meaning args = true

-- A call of the library may have that many arguments: printf has at least one, and any other as many as it has
-- parameters (C99 7.19.6.3; UPC 7.2, 7.3).
abbrev pub library_takes : LibraryCall → ℕ → Bool
library_takes Printf n = nat_lt 0 n
library_takes call n = nat_eq n (length (call_parameters call))

-- The name can be called here with that many arguments; `runs` says that the file defines it and that it is not main
-- (C99 6.5.2.2).
abbrev pub can_be_called : Meaning → Bool → ℕ → Bool
can_be_called (Function s) runs n = runs && nat_eq n (length s.parameters)
can_be_called (Library call) runs n = library_takes call n
can_be_called meaning runs n = false

-- The first argument, if there is one, is a string that is a format, and the others fit it (C99 7.19.6.1).
abbrev pub format_fits : Option (List ℕ) → List Attr → Bool
format_fits format [] = true
format_fits None (a ∷ args) = false
format_fits (Some format) (a ∷ args) = prints format (map base args)

-- The call of the library is printf (C99 7.19.6.3).
abbrev pub is_printf : LibraryCall → Bool
is_printf Printf = true
is_printf call = false

-- The arguments of a printf begin with a format that the others fit; any other call passes (C99 7.19.6.3).
abbrev pub printf_fits : Meaning → Option (List ℕ) → List Attr → Bool
printf_fits (Library call) format args = not (is_printf call) || format_fits format args
printf_fits meaning format args = true

-- The node above converts the expression into a pointer-to-shared to a complete type (UPC 7.2.2).
abbrev pub is_allocated_at : Structs → Use → Bool
is_allocated_at structs (Into t) = takes_allocation structs (base_of t)
is_allocated_at structs how = false

-- The result of an allocation call is converted into a pointer-to-shared to a complete type; any other call passes (UPC
-- 7.2.2).
abbrev pub allocates_well : Structs → Use → Meaning → Bool
allocates_well structs how (Library call) = not (is_allocation call) || is_allocated_at structs how
allocates_well structs how meaning = true

-- There is a pointer's target, and it is shared and holds a pointer to a private object.
abbrev pub target_shares_private : Structs → Option CType → Bool
target_shares_private structs None = false
target_shares_private structs (Some t) = shares_private structs t

-- The type is that of a pointer to shared objects that hold pointers to private objects.
abbrev pub leads_to_private : Structs → CType → Bool
leads_to_private structs t = target_shares_private structs (base_target (base_of t))

-- The node above converts the expression into a pointer to shared objects that hold pointers to private objects.
abbrev pub is_private_at : Structs → Use → Bool
is_private_at structs (Into t) = leads_to_private structs t
is_private_at structs how = false

-- An allocation call would make shared objects that hold pointers to private objects (UPC 7.2.2).
abbrev pub allocates_private : Structs → Use → Meaning → Bool
allocates_private structs how (Library call) = is_allocation call && is_private_at structs how
allocates_private structs how meaning = false

-- The function of a reduction is the constant 0; any other call passes (UPC 7.3).
abbrev pub reduces_well : Meaning → List Attr → Bool
reduces_well (Library call) args = no_functions args (call_parameters call)
reduces_well meaning args = true

-- ---- operators

-- The operands fit `+`: integers, or a pointer and an integer (C99 6.5.6).
abbrev pub adds : Attr → Attr → Bool
adds a b = (counts a || points a) && (counts b || points b) && not (points a && points b)

-- The operands fit `-`: integers, a pointer and an integer, or two pointers (C99 6.5.6).
abbrev pub subtracts : Attr → Attr → Bool
subtracts a b = counts a && counts b || points a && is_scalar b

-- The operands fit an order: integers or pointers (C99 6.5.8).
abbrev pub orders : Attr → Attr → Bool
orders a b = counts a && counts b || points a && points b

-- The operands fit an equality: integers, pointers, or a pointer and the constant 0 (C99 6.5.9).
abbrev pub equates : Attr → Attr → Bool
equates a b = orders a b || (points a && is_zero b || is_zero a && points b)

-- The operands are of kinds that a binary operator takes (C99 6.5.5 to 6.5.12).
abbrev pub fits : BinOp → Attr → Attr → Bool
fits Add a b = adds a b
fits Subtract a b = subtracts a b
fits Less a b = orders a b
fits Greater a b = orders a b
fits LessEqual a b = orders a b
fits GreaterEqual a b = orders a b
fits Equal a b = equates a b
fits NotEqual a b = equates a b
fits op a b = counts a && counts b

-- The operands are of kinds that a compound assignment takes (C99 6.5.16.2).
abbrev pub fits_compound : BinOp → Attr → Attr → Bool
fits_compound Add a b = is_scalar a && counts b
fits_compound Subtract a b = is_scalar a && counts b
fits_compound op a b = counts a && counts b

-- The operator is `+` or `-`, which may step a pointer (C99 6.5.6).
abbrev pub moves : BinOp → Bool
moves Add = true
moves Subtract = true
moves op = false

-- The operator is an order: `<`, `>`, `<=` or `>=` (C99 6.5.8).
abbrev pub is_order : BinOp → Bool
is_order Less = true
is_order Greater = true
is_order LessEqual = true
is_order GreaterEqual = true
is_order op = false

-- The operator is `-`, an equality or an order, which take two pointers only with like targets (C99 6.5.6, 6.5.8,
-- 6.5.9).
abbrev pub compares : BinOp → Bool
compares Subtract = true
compares Equal = true
compares NotEqual = true
compares op = is_order op

-- There are two pointers' targets, and they differ in more than const, strict and relaxed of their own (UPC 6.5.1.1).
abbrev pub targets_differ : Option CType → Option CType → Bool
targets_differ (Some t) (Some u) = not (equal_targets t u)
targets_differ t u = false

-- There is a pointer's target, and it is a lock (UPC 7.2.4).
abbrev pub target_is_lock : Option CType → Bool
target_is_lock None = false
target_is_lock (Some t) = is_lock t

-- Both values are lock pointers (UPC 7.2.4).
abbrev pub are_locks : Attr → Attr → Bool
are_locks a b = target_is_lock (target a) && target_is_lock (target b)

-- The operator is `-` (C99 6.5.6).
abbrev pub is_difference : BinOp → Bool
is_difference Subtract = true
is_difference op = false

-- The operator steps a pointer that leads to no object of known size (C99 6.5.6, UPC 6.4.2). The difference of lock
-- pointers is judged elsewhere.
abbrev pub moves_loosely : Structs → BinOp → Attr → Attr → Bool
moves_loosely structs op a b =
    moves op && (is_loose structs a || is_loose structs b) && not (is_difference op && are_locks a b)

-- There are two pointers' targets, and they are equal types with equal qualifiers (C99 6.2.7).
abbrev pub same_pointers : Option CType → Option CType → Bool
same_pointers (Some t) (Some u) = same_type t u
same_pointers t u = false

-- The operator compares or subtracts two pointers whose targets or blocks differ, or orders or subtracts two lock
-- pointers (C99 6.5.6, 6.5.8, 6.5.9; UPC 6.4.2).
abbrev pub mismatches : BinOp → Attr → Attr → Bool
mismatches op a b =
    compares op && targets_differ (target a) (target b) || (is_order op || is_difference op) && are_locks a b

-- The operands fit a choice: integers, two of type void, pointers of equal types, or a pointer and the constant 0 (C99
-- 6.5.15).
abbrev pub chooses : Attr → Attr → Bool
chooses a b =
    counts a && counts b
    || (gives_void a && gives_void b
    || (same_pointers (target a) (target b)
    || (points a && is_zero b || is_zero a && points b)))

-- The operand fits a unary operator: an integer, for `!` also a pointer (C99 6.5.3.3).
abbrev pub fits_unary : UnOp → Attr → Bool
fits_unary Not a = is_scalar a
fits_unary op a = counts a

-- There is a pointer's target, and it is shared and no lock (UPC 6.5.1.1).
abbrev pub target_is_shared : Option CType → Bool
target_is_shared None = false
target_is_shared (Some t) = is_shared t && not (is_lock t)

-- The value is a pointer-to-shared; a lock pointer is none (UPC 6.5.1.1, 7.2.4).
abbrev pub leads_to_shared : Attr → Bool
leads_to_shared a = target_is_shared (target a)

-- ---- switch

-- The value of a `case` label at the promoted kind of its switch (C99 6.8.4.2).
abbrev pub label_kind : Option Kind → ℤ → ℤ
label_kind None v = v
label_kind (Some k) v = converted (promoted k) v

-- A `case` label has the same value as this number at the kind of its switch (C99 6.8.4.2).
abbrev pub is_label : Option Kind → ℤ → Constant → Bool
is_label kind v (Known w) = int_eq (label_kind kind v) (label_kind kind w)
is_label kind v other = false

-- A `case` label is no integer constant, or a later one has the same value at the kind of the switch (C99 6.8.4.2).
abbrev pub is_wrong_label : Option Kind → Constant → List Constant → Bool
is_wrong_label kind (Known v) later = list_any (is_label kind v) later
is_wrong_label kind other later = true

-- One of the `case` labels of a switch is no integer constant, or has the same value as a later one (C99 6.8.4.2).
abbrev pub has_wrong_label : Option Kind → List Constant → Bool
has_wrong_label kind [] = false
has_wrong_label kind (label ∷ later) = is_wrong_label kind label later || has_wrong_label kind later

-- ---- initialisers

-- The type is a private array of one dimension, as an initialiser in braces needs it (C99 6.7.8).
abbrev pub is_list_type : CType → Bool
is_list_type t = is_array t && not (is_nested t) && not (is_shared t)

-- How many elements an array has; another type has none.
abbrev pub base_count : Base → ℕ
base_count (Array element count) = count
base_count b = 0

-- The value is no constant (C99 6.6).
abbrev pub is_variable : Attr → Bool
is_variable a = not (constants.is_constant (constant_of a))

-- Each value converts into this type (C99 6.7.8).
abbrev pub all_fit : CType → List Attr → Bool
all_fit t [] = true
all_fit t (a ∷ values) = converts a t && all_fit t values

-- The values convert into the type of an array's elements; what has no elements is judged elsewhere (C99 6.7.8).
abbrev pub element_takes : Option CType → List Attr → Bool
element_takes None values = true
element_takes (Some t) values = all_fit t values

-- The values of an initialiser in braces convert into the type of the elements (C99 6.7.8).
abbrev pub elements_take : CType → List Attr → Bool
elements_take t values = element_takes (base_target (base_of t)) values

-- An initialiser in braces has more values than the array has elements (C99 6.7.8).
abbrev pub has_too_many : CType → List Attr → Bool
has_too_many t values = nat_lt (base_count (base_of t)) (length values)

-- A `break` would leave nothing here, since no loop and no switch is around it (C99 6.8.6.3).
abbrev pub jumps_nowhere : Enclosing → Bool
jumps_nowhere around.Nothing = true
jumps_nowhere other = false

-- A `break` would leave the body of a upc_forall here (UPC 6.6.2).
abbrev pub leaves_forall : Enclosing → Bool
leaves_forall around.Forall = true
leaves_forall other = false

-- One of the members of a struct has this name (C99 6.7.2.1).
abbrev pub has_name : List types.Member → List ℕ → Bool
has_name members name = list_any (λ x. pointwise nat_eq x.name name) members

-- The type, seen without its qualifiers, is a struct with a member of this name (C99 6.7.2.1).
abbrev pub base_names : Structs → Base → List ℕ → Bool
base_names structs (types.Struct number) name = has_name (members_of structs number) name
base_names structs b name = false

-- The type is a struct with a member of this name, with any qualifiers (C99 6.7.2.1).
abbrev pub names_member : Structs → CType → List ℕ → Bool
names_member structs t name = base_names structs (base_of t) name

-- There is a pointer's target, and it is a struct with a member of this name (C99 6.5.2.3).
abbrev pub target_names : Structs → Option CType → List ℕ → Bool
target_names structs None name = false
target_names structs (Some t) name = names_member structs t name

-- The size operator is `sizeof` (C99 6.5.3.4).
abbrev pub is_plain_size : SizeOperator → Bool
is_plain_size Bytes = true
is_plain_size op = false

-- A size operator has no size to give for this type (C99 6.5.3.4, UPC 6.4.1).
abbrev pub has_no_size : Structs → SizeOperator → CType → Bool
has_no_size structs op t = not (has_size structs t) || not (is_plain_size op || is_shared t)

-- ---- the rules

-- A name has no declaration in scope (C99 6.5.1).
abbrev pub rule_1 : Node → Bool
rule_1 (Name how Unknown) = true
rule_1 x = false

-- A name or tag is declared twice in one scope, other than by a prototype with the same types; a library name is
-- declared (C99 6.7, 6.7.2.3, 7.1.3).
abbrev pub rule_2 : Node → Bool
rule_2 (Struct again members bytes) = again
rule_2 (DeclaresObject again file t) = again
rule_2 (DeclaresFunction again forms s) = again
rule_2 (Parameter again t) = again
rule_2 (Defines again differs forms s) = again
rule_2 x = false

-- The file has no function main with no parameters and result int (C99 5.1.2.2.1).
abbrev pub rule_3 : Node → Bool
rule_3 (File main) = not main
rule_3 x = false

-- The specifiers and qualifiers form no type, an object or parameter is of type void, or a lock stands without a
-- pointer (C99 6.7.2, 6.7.3; UPC 6.5.1, 7.2.4).
abbrev pub rule_4 : Node → Bool
rule_4 (Specifies forms) = not forms
rule_4 (Member again t) = not t.forms || declares_nothing t.ctype
rule_4 (MemberFunction forms result) = not forms || is_lock result
rule_4 (DeclaresObject again file t) = not t.forms || declares_nothing t.ctype
rule_4 (DeclaresFunction again forms s) = not forms || is_lock s.result
rule_4 (Parameter again t) = not t.forms || declares_nothing t.ctype
rule_4 (Defines again differs forms s) = not forms || is_lock s.result
rule_4 (SizeOfType op t) = not t.forms || is_lock_leaf t.ctype
rule_4 (Cast t a) = not t.forms || is_lock t.ctype
rule_4 x = false

-- A block size is no integer constant from 0 to UPC_MAX_BLOCK_SIZE; `[*]` stands elsewhere than on a declared array
-- (UPC 6.5.1.1).
abbrev pub rule_5 : Node → Bool
rule_5 (Block a) = not (is_block_size a.constant)
rule_5 (StarBlock declares) = not declares
rule_5 x = false

-- An array size is no integer constant of at least 1, an array has more than three dimensions, or a type has more than
-- 16,777,216 bytes; a parameter that is declared as an array is a pointer (C99 6.7.5.2, 6.7.5.3).
abbrev pub rule_6 : Facts → Node → Bool
rule_6 φ (Struct again members bytes) = nat_lt most_bytes bytes
rule_6 φ (Member again t) = has_wrong_sizes φ.structs t
rule_6 φ (DeclaresObject again file t) = has_wrong_sizes φ.structs t
rule_6 φ (Parameter again t) = has_wrong_dimensions t
rule_6 φ (SizeOfType op t) = has_wrong_sizes φ.structs t
rule_6 φ x = false

-- A shared object at block scope, as a parameter, as a member or as a result (UPC 6.5.1.1, 6.5.2).
abbrev pub rule_7 : Node → Bool
rule_7 (DeclaresObject again file t) = is_shared t.ctype && not file
rule_7 (Member again t) = is_shared t.ctype
rule_7 (MemberFunction forms result) = is_shared result
rule_7 (Parameter again t) = is_shared t.ctype && not (is_array t.ctype)
rule_7 (DeclaresFunction again forms s) = is_shared s.result
rule_7 (Defines again differs forms s) = is_shared s.result
rule_7 x = false

-- A struct is empty, is incomplete where its size is needed, names a member twice or has a function or an array of
-- arrays as a member; a shared object holds a pointer to a private object (C99 6.7.2.1).
abbrev pub rule_8 : Facts → Node → Bool
rule_8 φ (Struct again members bytes) = nat_eq members 0
rule_8 φ (Member again t) = again || (lacks_members φ.structs t.ctype || nat_lt 1 (length t.sizes))
rule_8 φ (MemberFunction forms result) = true
rule_8 φ (DeclaresObject again file t) = lacks_members φ.structs t.ctype || shares_private φ.structs t.ctype
rule_8 φ (Parameter again t) = is_array t.ctype && lacks_members φ.structs t.ctype
rule_8 φ (Call how meaning runs format args) = allocates_private φ.structs how meaning
rule_8 φ x = false

-- An initialiser of a file-scope object is no constant; a brace list for anything but a private array of one dimension,
-- or with more values than elements; an initialiser without braces for an array or struct (C99 6.7.8).
abbrev pub rule_9 : Node → Bool
rule_9 (InitialValue file object t a) = object && (file && is_variable a || (is_array t || is_struct t))
rule_9 (InitialList file object t values) =
    not (object && is_list_type t) || (has_too_many t values || file && list_any is_variable values)
rule_9 x = false

-- A called name is no function, is only declared, or is main; a wrong number of arguments (C99 6.5.2.2).
abbrev pub rule_10 : Node → Bool
rule_10 (Call how meaning runs format args) = not (can_be_called meaning runs (length args))
rule_10 x = false

-- A result or parameter is a struct; a definition differs from its prototype; a function is used other than in a call
-- (C99 6.7.5.3, 6.9.1).
abbrev pub rule_11 : Node → Bool
rule_11 (Name how (Function s)) = not (is_called how)
rule_11 (Name how (Library call)) = not (is_called how)
rule_11 (DeclaresFunction again forms s) = passes_struct s
rule_11 (Defines again differs forms s) = differs || passes_struct s
rule_11 x = false

-- A value is assigned, passed, returned or given as initialiser against the table of conversions (C99 6.5.16.1, UPC
-- 6.4.3).
abbrev pub rule_12 : Node → Bool
rule_12 (Assign a b) = gives_void b || not (is_array a.ctype || is_struct a.ctype) && not (converts b a.ctype)
rule_12 (Call how meaning runs format args) = not (passes meaning args)
rule_12 (Returns around a) = not (is_void around.result) && not (converts a around.result)
rule_12 (InitialValue file object t a) = not (object && converts a t)
rule_12 (InitialList file object t values) = not (elements_take t values)
rule_12 x = false

-- The left side of an assignment, `++` or `--` is no lvalue, is an array, a struct or const (C99 6.5.2.4, 6.5.3.1,
-- 6.5.16).
abbrev pub rule_13 : Node → Bool
rule_13 (Assign a b) = not (is_modifiable a)
rule_13 (Compound op a b) = not (is_modifiable a)
rule_13 (Step a) = not (is_modifiable a)
rule_13 x = false

-- An operator has operands of kinds that it does not take; a void value is used (C99 6.3.2.2, 6.5).
abbrev pub rule_14 : Node → Bool
rule_14 (Subscript how a i) = (gives_void a || gives_void i) || points a && not (counts i)
rule_14 (MemberOf a name) = gives_void a
rule_14 (MemberBehind a name) = gives_void a
rule_14 (Address a) = gives_void a
rule_14 (Dereference a) = gives_void a || leads_nowhere a
rule_14 (Unary op a) = not (fits_unary op a)
rule_14 (Cast t a) = gives_void a && not (is_void t.ctype)
rule_14 (Binary op a b) = not (fits op a b)
rule_14 (And a b) = not (is_scalar a && is_scalar b)
rule_14 (Or a b) = not (is_scalar a && is_scalar b)
rule_14 (Compound op a b) = not (fits_compound op a b)
rule_14 (Step a) = not (is_scalar a)
rule_14 (Conditional test a b) = not (is_scalar test && chooses a b)
rule_14 (Comma last) = is_struct last.ctype
rule_14 (Tests tests) = list_any gives_void tests
rule_14 (Switch a labels defaults) = gives_void a
rule_14 (Affinity a) = gives_void a
rule_14 (Barrier a) = gives_void a
rule_14 x = false

-- Arithmetic on a pointer to void, to an incomplete type or to a lock (C99 6.5.6, UPC 6.4.2).
abbrev pub rule_15 : Facts → Node → Bool
rule_15 φ (Subscript how a i) = is_loose φ.structs a
rule_15 φ (Step a) = is_loose φ.structs a
rule_15 φ (Binary op a b) = moves_loosely φ.structs op a b
rule_15 φ (Compound op a b) = moves op && is_loose φ.structs a
rule_15 φ x = false

-- A difference, an order or an equality of two pointers with different targets or blocks; an order or difference of
-- lock pointers (C99 6.5.6, 6.5.8, 6.5.9; UPC 6.4.2).
abbrev pub rule_16 : Node → Bool
rule_16 (Binary op a b) = mismatches op a b
rule_16 x = false

-- A cast against the table of conversions (C99 6.5.4, UPC 6.4.3).
abbrev pub rule_17 : Node → Bool
rule_17 (Cast t a) = not (casts a t.ctype)
rule_17 x = false

-- `*` or a subscript on what is no pointer or array; an array of arrays with fewer subscripts than dimensions (C99
-- 6.5.2.1, 6.5.3.2).
abbrev pub rule_18 : Node → Bool
rule_18 (Name how (Object t home)) = is_nested t && not (takes_rows how)
rule_18 (Subscript how a i) = not (points a) || target_is_array (target a) && not (takes_rows how)
rule_18 (Dereference a) = not (points a)
rule_18 x = false

-- `.` or `->` on what is no struct, or with an unknown member (C99 6.5.2.3).
abbrev pub rule_19 : Facts → Node → Bool
rule_19 φ (MemberOf a name) = not (names_member φ.structs a.ctype name)
rule_19 φ (MemberBehind a name) = not (target_names φ.structs (target a) name)
rule_19 φ x = false

-- `&` of what is no lvalue, or of an array (C99 6.5.3.2).
abbrev pub rule_20 : Node → Bool
rule_20 (Address a) = not (is_lvalue a) || is_array a.ctype
rule_20 x = false

-- `sizeof` of void, a function or an incomplete type; a UPC size operator on a type that is not shared (C99 6.5.3.4,
-- UPC 6.4.1).
abbrev pub rule_21 : Facts → Node → Bool
rule_21 φ (SizeOf op a) = has_no_size φ.structs op a.ctype
rule_21 φ (SizeOfType op t) = has_no_size φ.structs op t.ctype
rule_21 φ x = false

-- A condition is neither an integer nor a pointer (C99 6.8.4.1, 6.8.5).
abbrev pub rule_22 : Node → Bool
rule_22 (Tests tests) = list_any is_no_condition tests
rule_22 x = false

-- A `break` outside every loop and every switch, or a `continue` outside every loop; an affinity that is neither an
-- integer nor a pointer-to-shared (C99 6.8.6.2, 6.8.6.3; UPC 6.6.2).
abbrev pub rule_23 : Node → Bool
rule_23 (Break around) = jumps_nowhere around.breaks
rule_23 (Continue around) = not around.loops
rule_23 (Affinity a) = not (counts a || leads_to_shared a)
rule_23 x = false

-- A `break` or `return` that leaves the body of a upc_forall (UPC 6.6.2).
abbrev pub rule_24 : Node → Bool
rule_24 (Break around) = leaves_forall around.breaks
rule_24 (Returns around a) = around.forall
rule_24 (ReturnsNothing around) = around.forall
rule_24 x = false

-- A `case` label that is no integer constant, or stands twice in its switch; `default` twice; a switch on no integer
-- (C99 6.8.4.2).
abbrev pub rule_25 : Node → Bool
rule_25 (Switch a labels defaults) =
    not (counts a) || (has_wrong_label (base_kind (base a)) labels || nat_lt 1 defaults)
rule_25 x = false

-- `return` with a value in a void function, or without one elsewhere (C99 6.8.6.4).
abbrev pub rule_26 : Node → Bool
rule_26 (Returns around a) = is_void around.result
rule_26 (ReturnsNothing around) = not (is_void around.result)
rule_26 x = false

-- The expression of a notify, wait or barrier is no integer (UPC 6.6.1).
abbrev pub rule_27 : Node → Bool
rule_27 (Barrier a) = not (counts a)
rule_27 x = false

-- A printf whose first argument is no string, whose string is no format, or whose arguments do not fit it (C99
-- 7.19.6.1, 7.19.6.3).
abbrev pub rule_28 : Node → Bool
rule_28 (Call how meaning runs format args) = not (printf_fits meaning format args)
rule_28 x = false

-- An allocation call's result is not converted to a pointer-to-shared to a complete type at that place (UPC 7.2.2).
abbrev pub rule_29 : Facts → Node → Bool
rule_29 φ (Call how meaning runs format args) = not (allocates_well φ.structs how meaning)
rule_29 φ x = false

-- A string elsewhere than as the first argument of printf.
abbrev pub rule_30 : Node → Bool
rule_30 (Strings Prints) = false
rule_30 (Strings how) = true
rule_30 x = false

-- The function argument of a reduction is not the constant 0 (UPC 7.3).
abbrev pub rule_31 : Node → Bool
rule_31 (Call how meaning runs format args) = not (reduces_well meaning args)
rule_31 x = false

-- An expression at a place where a constant is asked for has a value that is undefined in C99 (C99 6.5, 6.6).
abbrev pub rule_32 : Node → Bool
rule_32 (Constantly a) = constants.is_undefined (constant_of a)
rule_32 x = false

-- ---- the table

-- The number of a rule, and whether a node breaks it.
pub record Verdict : Type 0 where
  pub rule : ℕ
  pub broken : Bool

-- The verdict on a node by the rule with this number.
abbrev pub judge : ℕ → Bool → Verdict
judge n broken = record { rule = n; broken = broken }

-- The verdicts of all 32 rules on a node, the lowest number first.
abbrev pub table : Facts → Node → List Verdict
table φ x =
    judge 1 (rule_1 x) ∷ judge 2 (rule_2 x) ∷ judge 3 (rule_3 x) ∷ judge 4 (rule_4 x) ∷
    judge 5 (rule_5 x) ∷ judge 6 (rule_6 φ x) ∷ judge 7 (rule_7 x) ∷ judge 8 (rule_8 φ x) ∷
    judge 9 (rule_9 x) ∷ judge 10 (rule_10 x) ∷ judge 11 (rule_11 x) ∷ judge 12 (rule_12 x) ∷
    judge 13 (rule_13 x) ∷ judge 14 (rule_14 x) ∷ judge 15 (rule_15 φ x) ∷ judge 16 (rule_16 x) ∷
    judge 17 (rule_17 x) ∷ judge 18 (rule_18 x) ∷ judge 19 (rule_19 φ x) ∷ judge 20 (rule_20 x) ∷
    judge 21 (rule_21 φ x) ∷ judge 22 (rule_22 x) ∷ judge 23 (rule_23 x) ∷ judge 24 (rule_24 x) ∷
    judge 25 (rule_25 x) ∷ judge 26 (rule_26 x) ∷ judge 27 (rule_27 x) ∷ judge 28 (rule_28 x) ∷
    judge 29 (rule_29 φ x) ∷ judge 30 (rule_30 x) ∷ judge 31 (rule_31 x) ∷ judge 32 (rule_32 x) ∷
    []

-- The number of a rule where it is broken, else the lowest broken rule above it.
abbrev pub or_above : ℕ → Bool → Option ℕ → Option ℕ
or_above n true above = Some n
or_above n false above = above

-- The number of the first rule in a table that is broken, if one is.
abbrev pub lowest_in : List Verdict → Option ℕ
lowest_in [] = None
lowest_in (v ∷ vs) = or_above v.rule v.broken (lowest_in vs)

-- The lowest rule that a node breaks, if it breaks one.
abbrev pub lowest : Facts → Node → Option ℕ
lowest φ x = lowest_in (table φ x)

-- The rule with this number is in the table and is broken.
abbrev pub Breaks : ℕ → List Verdict → Type 0
Breaks n [] = ⊥
Breaks n (v ∷ vs) = ((n ≡ v.rule) × IsTrue v.broken) ⊎ Breaks n vs
