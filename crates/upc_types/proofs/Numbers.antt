-- Targets that are alike, and their numbers.
use Rattle.std.proofs.Common.{◌≡◌, ℕ, ◌+◌, ◌≤◌, Bool, true, false, ◌==◌, if◌then◌else◌, List, [], ◌∷◌, ◌++◌, length, Option, Some, None, refl, arith}
use Rattle.std.proofs.lemmas.Bool.{eq-eqb}
use Rattle.block_layout.specs.declared.kind.Kind.{Kind}
use Rattle.block_layout.specs.declared.kind.Kind.TheVariants.{Char, UChar, Short, UShort, Int, UInt, Long, ULong, Shared, Lock, Private}
use Rattle.block_layout.specs.Shapes.{same_kind}
use Rattle.upc_types.specs.declared.ctype.Access.{Access}
use Rattle.upc_types.specs.declared.ctype.Access.TheVariants as a
use Rattle.upc_types.specs.Types.{CType, Qualified, Base, Void, Integer, Struct, Array, Pointer, LockObject}
use Rattle.upc_types.specs.Same.{same_bool, same_access, same_block, same_qualifiers, same_base}
use Rattle.upc_types.specs.Cells.{alike, number_of}

number_itself : (n : ℕ) → (n == n) ≡ true
number_itself n = eq-eqb n n refl

pub kind_itself : (k : Kind) → same_kind k k ≡ true
kind_itself Char = refl
kind_itself UChar = refl
kind_itself Short = refl
kind_itself UShort = refl
kind_itself Int = refl
kind_itself UInt = refl
kind_itself Long = refl
kind_itself ULong = refl
kind_itself (Shared n b) = rw (number_itself n, number_itself b) refl
kind_itself Lock = refl
kind_itself (Private n) = number_itself n

block_itself : (s : Option ℕ) → same_block s s ≡ true
block_itself None = refl
block_itself (Some n) = number_itself n

bool_itself : (c : Bool) → same_bool c c ≡ true
bool_itself true = refl
bool_itself false = refl

access_itself : (x : Access) → same_access x x ≡ true
access_itself a.Unsaid = refl
access_itself a.Strict = refl
access_itself a.Relaxed = refl

-- Qualifiers are the same as themselves.
pub qualifiers_themselves : (c : Bool) (s : Option ℕ) (x : Access) → same_qualifiers c s x c s x ≡ true
qualifiers_themselves c s x = rw (bool_itself c, block_itself s, access_itself x) refl

base_itself : (b : Base) → same_base b b ≡ true
base_itself Void = refl
base_itself (Integer k) = kind_itself k
base_itself (Struct n) = number_itself n
base_itself (Array (Qualified e c s x) n) = rw (number_itself n, qualifiers_themselves c s x, base_itself e) refl
base_itself (Pointer (Qualified t c s x)) = rw (qualifiers_themselves c s x, base_itself t) refl
base_itself LockObject = refl

-- A target is like itself.
pub alike_itself : (t : CType) → alike t t ≡ true
alike_itself (Qualified b c s x) = rw (block_itself s, base_itself b) refl

most_one : (b : Bool) (n len : ℕ) → n ≤ len → (if b then 0 else n + 1) ≤ len + 1
most_one true n len h = omega arith
most_one false n len h = omega arith

-- Numbers are at most as large as there are targets.
pub most : (targets : List CType) (t : CType) → number_of targets t ≤ length targets
most [] t = omega arith
most (x ∷ targets) t = let h = most_one (alike x t) (number_of targets t) (length targets) (most targets t) in omega arith

last_one : (b : Bool) (n m len : ℕ) → (if b then 0 else n + 1) ≡ len + 1 → (n ≡ len → m ≡ len) → (if b then 0 else m + 1) ≡ len + 1
last_one true n m len h f = absurd (omega arith)
last_one false n m len h f = let e = f (omega arith) in omega arith

-- A target with no number yet gets the next one.
pub last : (targets : List CType) (t : CType) → number_of targets t ≡ length targets → number_of (targets ++ (t ∷ [])) t ≡ length targets
last [] t h = rw (alike_itself t) refl
last (x ∷ targets) t h =
    let e = last_one (alike x t) (number_of targets t) (number_of (targets ++ (t ∷ [])) t) (length targets) (omega arith) (last targets t) in
    omega arith
