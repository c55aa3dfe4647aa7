-- Which conversions are allowed (C99 6.3.2.3, 6.5.4, 6.5.16.1; UPC 6.4.3, 6.5.1.1). They look at types without their
-- own qualifiers.
use Rattle.std.specs.Prelude.{ℕ, Bool, true, false, ◌&&◌, ◌||◌, not, Option, Some, None}
use Rattle.upc_types.specs.Types.{CType, Qualified, Base, Integer, Pointer, base_of, Structs}
use Rattle.upc_types.specs.Same.{same_base, same_block, is_lock_object, is_void}
use Rattle.upc_types.specs.Layout.{is_complete}

-- Whether a type is an integer type (C99 6.2.5).
abbrev pub is_integer : Base → Bool
is_integer (Integer kind) = true
is_integer b = false

-- Whether a type is a pointer type (C99 6.2.5).
abbrev pub is_pointer : Base → Bool
is_pointer (Pointer target) = true
is_pointer b = false

-- Whether a type is shared, which is where it has a block size (UPC 6.5.1.1).
abbrev pub is_shared : Option ℕ → Bool
is_shared None = false
is_shared (Some block) = true

-- Whether a type is a pointer to a lock (UPC 7.2.4).
abbrev pub is_lock_pointer : Base → Bool
is_lock_pointer (Pointer (Qualified target c s x)) = is_lock_object target
is_lock_pointer b = false

-- Whether a type is a pointer to a shared object, which a lock pointer is not.
abbrev pub is_shared_pointer : Base → Bool
is_shared_pointer (Pointer (Qualified target c s x)) = is_shared s && not (is_lock_object target)
is_shared_pointer b = false

-- Whether a type is a pointer to a private object, which a lock pointer is not.
abbrev pub is_private_pointer : Base → Bool
is_private_pointer (Pointer (Qualified target c s x)) = not (is_shared s) && not (is_lock_object target)
is_private_pointer b = false

-- Whether a conversion that changes const so is allowed for the target of a pointer: it may add const, and not take it
-- away (C99 6.3.2.3, 6.5.16.1).
abbrev pub keeps_const : Bool → Bool → Bool
keeps_const from into = not from || into

-- Whether both types are integer types, which convert to each other (C99 6.3.1.3).
abbrev pub integer_to_integer : Base → Base → Bool
integer_to_integer from into = is_integer from && is_integer into

-- Whether a value is the constant 0, and the type to which it converts a pointer (C99 6.3.2.3).
abbrev pub zero_to_pointer : Bool → Base → Base → Bool
zero_to_pointer zero from into = zero && (is_integer from && is_pointer into)

-- Whether a pointer converts to one with the same target and the same block, where the target may gain const and change
-- between strict and relaxed (C99 6.5.16.1, UPC 6.5.1.1).
abbrev pub same_target : Base → Base → Bool
same_target (Pointer (Qualified a c s x)) (Pointer (Qualified b d t y)) = same_base a b
    && (same_block s t && keeps_const c d)
same_target from into = false

-- Whether a pointer-to-shared converts to one with the same target, which may gain const, and with any block
-- (UPC 6.4.3).
abbrev pub to_other_block : Base → Base → Bool
to_other_block (Pointer (Qualified a c s x)) (Pointer (Qualified b d t y)) = (same_base a b && not (is_lock_object a))
    && ((is_shared s && is_shared t) && keeps_const c d)
to_other_block from into = false

-- Whether a pointer-to-shared converts to a private pointer with the same target, which may gain const (UPC 6.4.3).
abbrev pub to_private : Base → Base → Bool
to_private (Pointer (Qualified a c s x)) (Pointer (Qualified b d t y)) = (same_base a b && not (is_lock_object a))
    && ((is_shared s && not (is_shared t)) && keeps_const c d)
to_private from into = false

-- Whether the result of an allocation call converts to this type: a pointer-to-shared to a complete type (UPC 7.2.2).
abbrev pub takes_allocation : Structs → Base → Bool
takes_allocation structs (Pointer target) = is_shared_pointer (Pointer target) && is_complete structs target
takes_allocation structs into = false

-- Whether a value converts to a parameter of the library of type `shared void *`: a pointer-to-shared, or the constant
-- 0 (UPC 7.2).
abbrev pub to_shared_void : Base → Bool → Bool
to_shared_void from zero = is_shared_pointer from || (zero && is_integer from)

-- Whether a value converts to a parameter of the library of type `void *`: a private pointer, or the constant 0
-- (C99 6.3.2.3).
abbrev pub to_void_pointer : Base → Bool → Bool
to_void_pointer from zero = is_private_pointer from || (zero && is_integer from)

-- Whether a lock pointer converts to one with the same target, which may gain const (UPC 7.2.4).
abbrev pub lock_to_lock : Base → Base → Bool
lock_to_lock from into = is_lock_pointer from && (is_lock_pointer into && same_target from into)

-- Whether a value of one type converts to another without a cast; `zero` says that the value is the constant 0
-- (C99 6.5.16.1).
abbrev pub assignable : CType → CType → Bool → Bool
assignable from into zero =
    integer_to_integer (base_of from) (base_of into)
    || (zero_to_pointer zero (base_of from) (base_of into)
    || (same_target (base_of from) (base_of into)
    || lock_to_lock (base_of from) (base_of into)))

-- Whether a cast converts a value of one type to another; `zero` says that the value is the constant 0 (C99 6.5.4,
-- UPC 6.4.3).
abbrev pub castable : CType → CType → Bool → Bool
castable from into zero =
    assignable from into zero
    || (to_other_block (base_of from) (base_of into)
    || (to_private (base_of from) (base_of into)
    || is_void (base_of into)))
