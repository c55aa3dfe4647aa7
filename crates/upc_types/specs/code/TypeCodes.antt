-- A number made of the base and the block of a target, so that targets that are alike have one number. Nothing rests on
-- which number that is.
use Rattle.std.specs.Prelude.{ℕ, ◌+◌, Bool, if◌then◌else◌, Option, Some, None}
use Rattle.std.specs.List.{fold}
use Rattle.std.specs.Hash as fed
use Rattle.std.specs.Hash.DefaultHasher as sip
use Rattle.std.specs.declared.hash.DefaultHasher.{DefaultHasher}
use Rattle.block_layout.specs.declared.kind.Kind.{Kind}
use Rattle.block_layout.specs.declared.kind.Kind.TheVariants as kinds
use Rattle.upc_types.specs.declared.ctype.Access.{Access}
use Rattle.upc_types.specs.declared.ctype.Access.TheVariants as accesses
use Rattle.upc_types.specs.Types.{CType, Qualified, Base, Void, Integer, Struct, Array, Pointer, LockObject}

-- The state of the hash function after one more number.
abbrev pub written : DefaultHasher → ℕ → DefaultHasher
written s n = fold sip.write s (fed.u64 n)

-- The number that stands for strict, relaxed or neither in the code of a type.
abbrev pub access_number : Access → ℕ
access_number accesses.Unsaid = 0
access_number accesses.Strict = 1
access_number accesses.Relaxed = 2

-- The number that stands for an integer kind in the code of a type, 0 for another kind.
abbrev pub kind_number : Kind → ℕ
kind_number kinds.Char = 1
kind_number kinds.UChar = 2
kind_number kinds.Short = 3
kind_number kinds.UShort = 4
kind_number kinds.Int = 5
kind_number kinds.UInt = 6
kind_number kinds.Long = 7
kind_number kinds.ULong = 8
kind_number kind = 0

-- The state of the hash function after the block size of a type, or after the mark of one that is not shared.
abbrev pub with_block : DefaultHasher → Option ℕ → DefaultHasher
with_block s None = written s 0
with_block s (Some n) = written (written s 1) n

-- The number that stands for const and for strict, relaxed or neither in the code of a type.
abbrev pub qualifier_number : Bool → Access → ℕ
qualifier_number constant access = if constant then access_number access + 3 else access_number access

-- The state of the hash function after the qualifiers of a type.
abbrev pub with_qualifiers : DefaultHasher → Bool → Option ℕ → Access → DefaultHasher
with_qualifiers s constant block access = with_block (written s (qualifier_number constant access)) block

-- The state of the hash function after a type that is neither a pointer nor an array, without its own qualifiers.
abbrev pub with_leaf : DefaultHasher → Base → DefaultHasher
with_leaf s Void = written s 0
with_leaf s (Integer kind) = written (written s 1) (kind_number kind)
with_leaf s (Struct number) = written (written s 2) number
with_leaf s LockObject = written s 5
with_leaf s b = s

-- The state of the hash function after a type without its own qualifiers.
abbrev pub with_base : DefaultHasher → Base → DefaultHasher
with_base s (Array (Qualified b c t x) count) = with_base (with_qualifiers (written (written s 3) count) c t x) b
with_base s (Pointer (Qualified b c t x)) = with_base (with_qualifiers (written s 4) c t x) b
with_base s b = with_leaf s b

-- The code of a target of pointers, which is the same for all targets that are alike.
abbrev pub code_of : CType → ℕ
code_of (Qualified b c s x) = sip.finish (with_base (with_block sip.initial s) b)
