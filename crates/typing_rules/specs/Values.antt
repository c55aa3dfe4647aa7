-- The types of values, and tests on types (C99 6.2.5, 6.3.2.1).
use Rattle.std.specs.Prelude.{ℕ, Bool, true, false, ◌&&◌, ◌||◌, Option, Some, None}
use Rattle.block_layout.specs.declared.kind.Kind.{Kind}
use Rattle.block_layout.specs.declared.kind.Kind.TheVariants as kinds
use Rattle.upc_types.specs.declared.ctype.Access.TheVariants.{Unsaid}
use Rattle.upc_types.specs.Types.{CType, Qualified, Base, Integer, Struct, Array, Pointer, base_of, block_of}
use Rattle.upc_types.specs.Same as same
use Rattle.upc_types.specs.Same.{same_base, same_block, is_lock_object}

-- The type of a value, seen without its qualifiers: an array turns into a pointer to its first element (C99 6.3.2.1).
abbrev pub value_base : Base → Base
value_base (Array element count) = Pointer element
value_base b = b

-- A type without qualifiers of its own.
abbrev pub plainly : Base → CType
plainly b = Qualified b false None Unsaid

-- The type of the value of an expression, which has no qualifiers of its own (C99 6.3.2.1).
abbrev pub value_type : CType → CType
value_type (Qualified b c s x) = plainly (value_base b)

-- The type, seen without its qualifiers, is an array (C99 6.2.5).
abbrev pub base_is_array : Base → Bool
base_is_array (Array element count) = true
base_is_array b = false

-- The type, seen without its qualifiers, is a struct (C99 6.2.5).
abbrev pub base_is_struct : Base → Bool
base_is_struct (Struct number) = true
base_is_struct b = false

-- The type is void, with any qualifiers (C99 6.2.5).
abbrev pub is_void : CType → Bool
is_void t = same.is_void (base_of t)

-- The type is an array, with any qualifiers (C99 6.2.5).
abbrev pub is_array : CType → Bool
is_array t = base_is_array (base_of t)

-- The type is a struct, with any qualifiers (C99 6.2.5).
abbrev pub is_struct : CType → Bool
is_struct t = base_is_struct (base_of t)

-- The type is that of a lock itself, not of a pointer to one, with any qualifiers (UPC 7.2.4).
abbrev pub is_lock : CType → Bool
is_lock t = is_lock_object (base_of t)

-- There is a value where one may be missing.
abbrev pub present : {A : Type 0} → Option A → Bool
present None = false
present (Some x) = true

-- The type is shared, with any block size (UPC 6.5.1.1).
abbrev pub is_shared : CType → Bool
is_shared t = present (block_of t)

-- The kind itself, where it is one of integers (C99 6.2.5).
abbrev pub integer_kind : Kind → Option Kind
integer_kind (kinds.Shared n b) = None
integer_kind kinds.Lock = None
integer_kind (kinds.Private n) = None
integer_kind kind = Some kind

-- The kind of an integer type, seen without its qualifiers (C99 6.2.5).
abbrev pub base_kind : Base → Option Kind
base_kind (Integer kind) = integer_kind kind
base_kind b = None

-- What a value of this type points to: a pointer's target, or an array's element (C99 6.3.2.1).
abbrev pub base_target : Base → Option CType
base_target (Pointer t) = Some t
base_target (Array t count) = Some t
base_target b = None

-- The number of a struct type, seen without its qualifiers.
abbrev pub base_struct : Base → Option ℕ
base_struct (Struct number) = Some number
base_struct b = None

-- The type, seen without its qualifiers, is an array of arrays (C99 6.7.5.2).
abbrev pub base_is_nested : Base → Bool
base_is_nested (Array t count) = is_array t
base_is_nested b = false

-- The type is an array of arrays, with any qualifiers (C99 6.7.5.2).
abbrev pub is_nested : CType → Bool
is_nested t = base_is_nested (base_of t)

-- The type is void or that of a lock itself, of which no object can be declared (C99 6.2.5, UPC 7.2.4).
abbrev pub is_no_object : Base → Bool
is_no_object b = same.is_void b || is_lock_object b

-- Targets that are equal but for const and strict or relaxed (UPC 6.5.1.1): the same type, and the same block where
-- shared.
abbrev pub equal_targets : CType → CType → Bool
equal_targets a b = same_block (block_of a) (block_of b) && same_base (base_of a) (base_of b)
