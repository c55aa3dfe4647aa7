-- Types as declarations form them, with all types inside them.
use Rattle.std.proofs.Common.{◌≡◌, ℕ, Bool, false, Option}
use Rattle.std.proofs.Common.{Some, None, refl, sym, ◌∙◌, subst, arith}
use Rattle.std.proofs.lemmas.Bool.{false≢true}
use Rattle.integers.specs.Integers.{IsInteger}
use Rattle.upc_types.specs.declared.ctype.Access.{Access}
use Rattle.upc_types.specs.Types as types
use Rattle.upc_types.specs.Types.{CType, Qualified, Base, base_of, block_of}
use Rattle.upc_types.specs.Same.{is_lock_object}
use Rattle.typing_rules.specs.Values.{value_base, value_type, base_is_array, base_is_nested, is_nested}
use Rattle.typing_rules.specs.Values.{is_struct, base_target}
use Rattle.typing_rules.specs.Attributes.{member_block, spread, member_type}
use Rattle.meaning_laws.specs.layer.Values.{IsFormedType}
use Rattle.meaning_laws_accepted.specs.code.LaidPrograms.{IsBlock, HasBlocks, HasBlocksIn}

-- ---- what is formed

-- The integers in a type are of a kind of integers, it is no array, no pointer in it leads to an array, and what one
-- leads to has a block of at most 16,777,216 elements.
abbrev pub IsDeep : Base → Type 0
IsDeep types.Void = Unit {0}
IsDeep (types.Integer k) = IsInteger k
IsDeep (types.Struct number) = Unit {0}
IsDeep (types.Array t count) = ⊥
IsDeep (types.Pointer (Qualified b c s x)) = IsDeep b × IsBlock s
IsDeep types.LockObject = Unit {0}

-- What a pointer leads to, where that is formed.
abbrev pub IsTarget : CType → Type 0
IsTarget t = IsDeep (types.Pointer t)

-- A type of objects, with this block: an array is shared as its elements are, and it is no lock.
abbrev pub IsSound : Option ℕ → Base → Type 0
IsSound s types.Void = Unit {0}
IsSound s (types.Integer k) = IsInteger k
IsSound s (types.Struct number) = Unit {0}
IsSound s (types.Array (Qualified e d t y) count) = (t ≡ s) × IsSound t e
IsSound s (types.Pointer t) = IsDeep (types.Pointer t)
IsSound s types.LockObject = ⊥

-- A type of objects, whose block is at most 16,777,216 elements.
abbrev pub IsSoundType : CType → Type 0
IsSoundType t = IsSound (block_of t) (base_of t) × IsBlock (block_of t)

-- A type into which a value is converted: integers are of a kind of integers, and a pointer is formed.
abbrev pub IsNamed : Base → Type 0
IsNamed (types.Integer k) = IsInteger k
IsNamed (types.Pointer t) = IsDeep (types.Pointer t)
IsNamed b = Unit {0}

-- ---- blocks

-- What is not shared has no block.
pub no_block : IsBlock None
no_block = omega arith

-- The block of an array's elements is that of the array.
pub element_block : (s t : Option ℕ) → t ≡ s → IsBlock s → IsBlock t
element_block s t e h = subst IsBlock (sym e) h

deep_blocks : (b : Base) → IsDeep b → HasBlocksIn b
deep_blocks types.Void h = tt
deep_blocks (types.Integer k) h = tt
deep_blocks (types.Struct number) h = tt
deep_blocks (types.Array t count) h = absurd h
deep_blocks (types.Pointer (Qualified b c s x)) h = (h.1, deep_blocks b h.0)
deep_blocks types.LockObject h = tt

inner_blocks : (s : Option ℕ) (b : Base) → IsBlock s → IsSound s b → HasBlocksIn b
inner_blocks s types.Void i h = tt
inner_blocks s (types.Integer k) i h = tt
inner_blocks s (types.Struct number) i h = tt
inner_blocks s (types.Array (Qualified e d t y) count) i h =
    let own = element_block s t h.0 i in (own, inner_blocks t e own h.1)
inner_blocks s (types.Pointer t) i h = deep_blocks (types.Pointer t) h
inner_blocks s types.LockObject i h = absurd h

-- Each block in a type of objects is at most 16,777,216 elements.
pub sound_blocks : (t : CType) → IsSoundType t → HasBlocks t
sound_blocks (Qualified b c s x) h = (h.1, inner_blocks s b h.1 h.0)

-- ---- what follows

not_lock : (s : Option ℕ) (b : Base) → IsSound s b → is_lock_object b ≡ false
not_lock s types.Void h = refl
not_lock s (types.Integer k) h = refl
not_lock s (types.Struct number) h = refl
not_lock s (types.Array t count) h = refl
not_lock s (types.Pointer t) h = refl
not_lock s types.LockObject h = absurd h

pub formed_type : (t : CType) → IsSoundType t → IsFormedType t
formed_type (Qualified types.Void c s x) h = tt
formed_type (Qualified (types.Integer k) c s x) h = h.0
formed_type (Qualified (types.Struct number) c s x) h = tt
formed_type (Qualified (types.Array (Qualified e d t y) count) c s x) h = (h.0.0, not_lock t e h.0.1)
formed_type (Qualified (types.Pointer t) c s x) h = tt
formed_type (Qualified types.LockObject c s x) h = absurd h.0

-- What is no array is the same inside.
pub sound_deep : (s : Option ℕ) (b : Base) → IsSound s b → base_is_array b ≡ false → IsDeep b
sound_deep s types.Void h a = tt
sound_deep s (types.Integer k) h a = h
sound_deep s (types.Struct number) h a = tt
sound_deep s (types.Array t count) h a = absurd (false≢true (sym a))
sound_deep s (types.Pointer t) h a = h
sound_deep s types.LockObject h a = absurd h

pub deep_sound : (s : Option ℕ) (b : Base) → IsDeep b → is_lock_object b ≡ false → IsSound s b
deep_sound s types.Void h l = tt
deep_sound s (types.Integer k) h l = h
deep_sound s (types.Struct number) h l = tt
deep_sound s (types.Array t count) h l = absurd h
deep_sound s (types.Pointer t) h l = h
deep_sound s types.LockObject h l = absurd (false≢true (sym l))

pub deep_array : (b : Base) → IsDeep b → base_is_array b ≡ false
deep_array types.Void h = refl
deep_array (types.Integer k) h = refl
deep_array (types.Struct number) h = refl
deep_array (types.Array t count) h = absurd h
deep_array (types.Pointer t) h = refl
deep_array types.LockObject h = refl

pub deep_named : (b : Base) → IsDeep b → IsNamed b
deep_named types.Void h = tt
deep_named (types.Integer k) h = h
deep_named (types.Struct number) h = tt
deep_named (types.Array t count) h = absurd h
deep_named (types.Pointer t) h = h
deep_named types.LockObject h = tt

pub sound_named : (s : Option ℕ) (b : Base) → IsSound s b → IsNamed b
sound_named s types.Void h = tt
sound_named s (types.Integer k) h = h
sound_named s (types.Struct number) h = tt
sound_named s (types.Array t count) h = tt
sound_named s (types.Pointer t) h = h
sound_named s types.LockObject h = absurd h

pub pointer_deep : (t : CType) → IsDeep (base_of t) → IsBlock (block_of t) → IsTarget t
pointer_deep (Qualified b c s x) h i = (h, i)

pub deep_pointer : (t : CType) → IsTarget t → IsDeep (base_of t)
deep_pointer (Qualified b c s x) h = h.0

pub target_block : (t : CType) → IsTarget t → IsBlock (block_of t)
target_block (Qualified b c s x) h = h.1

-- A type that is no array is none of arrays.
pub no_rows : (b : Base) → base_is_array b ≡ false → base_is_nested b ≡ false
no_rows types.Void h = refl
no_rows (types.Integer k) h = refl
no_rows (types.Struct number) h = refl
no_rows (types.Array t count) h = absurd (false≢true (sym h))
no_rows (types.Pointer t) h = refl
no_rows types.LockObject h = refl

-- ---- the type of a value

-- The type of the value of what is no array of arrays.
pub value_sound : (t : CType) → IsSoundType t → is_nested t ≡ false → IsSoundType (value_type t)
value_sound (Qualified types.Void c s x) h r = (tt, no_block)
value_sound (Qualified (types.Integer k) c s x) h r = (h.0, no_block)
value_sound (Qualified (types.Struct number) c s x) h r = (tt, no_block)
value_sound (Qualified (types.Array (Qualified e d t y) count) c s x) h r =
    ((sound_deep t e h.0.1 r, element_block s t h.0.0 h.1), no_block)
value_sound (Qualified (types.Pointer t) c s x) h r = (h.0, no_block)
value_sound (Qualified types.LockObject c s x) h r = absurd h.0

pub value_rows : (t : CType) → is_nested (value_type t) ≡ false
value_rows (Qualified types.Void c s x) = refl
value_rows (Qualified (types.Integer k) c s x) = refl
value_rows (Qualified (types.Struct number) c s x) = refl
value_rows (Qualified (types.Array t count) c s x) = refl
value_rows (Qualified (types.Pointer t) c s x) = refl
value_rows (Qualified types.LockObject c s x) = refl

pub value_struct : (t : CType) → is_struct t ≡ false → is_struct (value_type t) ≡ false
value_struct (Qualified types.Void c s x) h = refl
value_struct (Qualified (types.Integer k) c s x) h = refl
value_struct (Qualified (types.Struct number) c s x) h = h
value_struct (Qualified (types.Array t count) c s x) h = refl
value_struct (Qualified (types.Pointer t) c s x) h = refl
value_struct (Qualified types.LockObject c s x) h = refl

-- ---- what a pointer leads to

-- What this leads to, if it is a pointer, is a type of objects where it is no lock.
abbrev pub LeadsToSound : Option CType → Type 0
LeadsToSound None = Unit {0}
LeadsToSound (Some u) = is_lock_object (base_of u) ≡ false → IsSoundType u

-- What this leads to, if it is a pointer, is no array and formed inside.
abbrev pub LeadsToDeep : Option CType → Type 0
LeadsToDeep None = Unit {0}
LeadsToDeep (Some u) = IsTarget u

pub target_sound : (t : CType) → IsSoundType t → LeadsToSound (base_target (value_base (base_of t)))
target_sound (Qualified types.Void c s x) h = tt
target_sound (Qualified (types.Integer k) c s x) h = tt
target_sound (Qualified (types.Struct number) c s x) h = tt
target_sound (Qualified (types.Array (Qualified e d t y) count) c s x) h = λ l. (h.0.1, element_block s t h.0.0 h.1)
target_sound (Qualified (types.Pointer (Qualified b d t y)) c s x) h = λ l. (deep_sound t b h.0.0 l, h.0.1)
target_sound (Qualified types.LockObject c s x) h = absurd h.0

pub target_deep : (t : CType) → IsSoundType t → is_nested t ≡ false → LeadsToDeep (base_target (value_base (base_of t)))
target_deep (Qualified types.Void c s x) h r = tt
target_deep (Qualified (types.Integer k) c s x) h r = tt
target_deep (Qualified (types.Struct number) c s x) h r = tt
target_deep (Qualified (types.Array (Qualified e d t y) count) c s x) h r =
    (sound_deep t e h.0.1 r, element_block s t h.0.0 h.1)
target_deep (Qualified (types.Pointer (Qualified b d t y)) c s x) h r = h.0
target_deep (Qualified types.LockObject c s x) h r = absurd h.0

-- Values are converted into what the elements of an array, or the objects behind a pointer, are.
abbrev pub LeadsToNamed : Option CType → Type 0
LeadsToNamed None = Unit {0}
LeadsToNamed (Some u) = IsNamed (base_of u)

pub element_named : (t : CType) → IsSoundType t → LeadsToNamed (base_target (base_of t))
element_named (Qualified types.Void c s x) h = tt
element_named (Qualified (types.Integer k) c s x) h = tt
element_named (Qualified (types.Struct number) c s x) h = tt
element_named (Qualified (types.Array (Qualified e d t y) count) c s x) h = sound_named t e h.0.1
element_named (Qualified (types.Pointer (Qualified b d t y)) c s x) h = deep_named b h.0.0
element_named (Qualified types.LockObject c s x) h = absurd h.0

-- ---- members

spread_sound : (c : Bool) (s : Option ℕ) (x : Access) (t : Option ℕ) (b : Base) → IsSound t b
    → IsSound (member_block s) (spread c s x b)
spread_sound c s x t types.Void h = tt
spread_sound c s x t (types.Integer k) h = h
spread_sound c s x t (types.Struct number) h = tt
spread_sound c s x t (types.Array (Qualified e d u y) count) h = (refl, spread_sound c s x u e h.1)
spread_sound c s x t (types.Pointer u) h = h
spread_sound c s x t types.LockObject h = absurd h

spread_array : (c : Bool) (s : Option ℕ) (x : Access) (b : Base) → base_is_array (spread c s x b) ≡ base_is_array b
spread_array c s x types.Void = refl
spread_array c s x (types.Integer k) = refl
spread_array c s x (types.Struct number) = refl
spread_array c s x (types.Array (Qualified e d u y) count) = refl
spread_array c s x (types.Pointer u) = refl
spread_array c s x types.LockObject = refl

spread_rows : (c : Bool) (s : Option ℕ) (x : Access) (b : Base) → base_is_nested b ≡ false
    → base_is_nested (spread c s x b) ≡ false
spread_rows c s x types.Void h = refl
spread_rows c s x (types.Integer k) h = refl
spread_rows c s x (types.Struct number) h = refl
spread_rows c s x (types.Array (Qualified e d u y) count) h = spread_array c s x e ∙ h
spread_rows c s x (types.Pointer u) h = refl
spread_rows c s x types.LockObject h = refl

member_fits : (s : Option ℕ) → IsBlock (member_block s)
member_fits None = no_block
member_fits (Some block) = no_block

-- The type of a member of an object.
pub member_sound : (t u : CType) → IsSoundType u → IsSoundType (member_type t u)
member_sound (Qualified struct c s x) (Qualified b d t y) h = (spread_sound c s x t b h.0, member_fits s)

pub member_rows : (t u : CType) → is_nested u ≡ false → is_nested (member_type t u) ≡ false
member_rows (Qualified struct c s x) (Qualified b d t y) h = spread_rows c s x b h
