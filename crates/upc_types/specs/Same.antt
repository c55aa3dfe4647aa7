-- Equal types (C99 6.2.7, UPC 6.5.1.1).
use Rattle.std.specs.Prelude.{ℕ, Bool, true, false, ◌==◌, ◌&&◌, Option, Some, None}
use Rattle.block_layout.specs.Shapes.{same_kind}
use Rattle.upc_types.specs.declared.ctype.Access.{Access}
use Rattle.upc_types.specs.declared.ctype.Access.TheVariants as access
use Rattle.upc_types.specs.Types.{CType, Qualified, Base, Void, Integer, Struct, Array, Pointer, LockObject}

-- Whether two truth values are equal.
abbrev pub same_bool : Bool → Bool → Bool
same_bool true true = true
same_bool false false = true
same_bool x y = false

-- Whether two types both say strict, both relaxed, or both neither (UPC 6.5.1.1).
abbrev pub same_access : Access → Access → Bool
same_access access.Unsaid access.Unsaid = true
same_access access.Strict access.Strict = true
same_access access.Relaxed access.Relaxed = true
same_access x y = false

-- Whether two types are both shared with one block size, or neither is shared (UPC 6.5.1.1).
abbrev pub same_block : Option ℕ → Option ℕ → Bool
same_block None None = true
same_block (Some m) (Some n) = m == n
same_block x y = false

-- Whether two types have the same qualifiers: const, shared with its block size, and strict or relaxed (C99 6.7.3,
-- UPC 6.5.1).
abbrev pub same_qualifiers : Bool → Option ℕ → Access → Bool → Option ℕ → Access → Bool
same_qualifiers c s x d t y = same_bool c d && (same_block s t && same_access x y)

-- Whether two types are equal but for qualifiers of their own (C99 6.2.7).
abbrev pub same_base : Base → Base → Bool
same_base Void Void = true
same_base (Integer k) (Integer l) = same_kind k l
same_base (Struct m) (Struct n) = m == n
same_base (Array (Qualified a c s x) m) (Array (Qualified b d t y) n) = m == n
    && (same_qualifiers c s x d t y && same_base a b)
same_base (Pointer (Qualified a c s x)) (Pointer (Qualified b d t y)) = same_qualifiers c s x d t y && same_base a b
same_base LockObject LockObject = true
same_base a b = false

-- Whether two types are equal, their qualifiers included (C99 6.2.7, UPC 6.5.1.1).
abbrev pub same_type : CType → CType → Bool
same_type (Qualified a c s x) (Qualified b d t y) = same_qualifiers c s x d t y && same_base a b

-- Whether a type is void (C99 6.2.5).
abbrev pub is_void : Base → Bool
is_void Void = true
is_void b = false

-- Whether a type is that of a lock itself, to which lock pointers point (UPC 7.2.4).
abbrev pub is_lock_object : Base → Bool
is_lock_object LockObject = true
is_lock_object b = false
