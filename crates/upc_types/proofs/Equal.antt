-- Types that pass the tests of equality are equal, so a number stands for one pointer type.
use Rattle.std.proofs.Common.{◌≡◌, ℕ, ◌+◌, ◌<◌, Bool, true, false, ◌&&◌, ◌==◌, if◌then◌else◌, List, [], ◌∷◌, length, get_or, suc, Option, Some, None, refl, sym, ap, ◌∙◌, subst, arith}
use Rattle.std.proofs.lemmas.Bool.{eqb-true, and_parts}
use Rattle.block_layout.specs.declared.kind.Kind.{Kind}
use Rattle.block_layout.specs.declared.kind.Kind.TheVariants.{Char, UChar, Short, UShort, Int, UInt, Long, ULong, Shared, Lock, Private}
use Rattle.block_layout.specs.Shapes.{same_kind}
use Rattle.upc_types.specs.declared.ctype.Access.{Access}
use Rattle.upc_types.specs.declared.ctype.Access.TheVariants as a
use Rattle.upc_types.specs.Types.{CType, Qualified, Base, Void, Integer, Struct, Array, Pointer, LockObject, base_of, block_of}
use Rattle.upc_types.specs.Same.{same_bool, same_access, same_block, same_qualifiers, same_base}
use Rattle.upc_types.specs.Cells.{alike, number_of, IsItsOwn}
use Rattle.upc_types.proofs.Numbers.{alike_itself}

-- Truth values that pass the test of equality are equal.
pub bool_is : (c d : Bool) → same_bool c d ≡ true → c ≡ d
bool_is true true h = refl
bool_is false false h = refl
bool_is c d h = absurd cc

-- What passes the test of strict, relaxed or neither is equal.
pub access_is : (x y : Access) → same_access x y ≡ true → x ≡ y
access_is a.Unsaid a.Unsaid h = refl
access_is a.Strict a.Strict h = refl
access_is a.Relaxed a.Relaxed h = refl
access_is x y h = absurd cc

-- Blocks that pass the test of equality are equal.
pub block_is : (s t : Option ℕ) → same_block s t ≡ true → s ≡ t
block_is None None h = refl
block_is (Some m) (Some n) h = ap Some (eqb-true m n h)
block_is s t h = absurd cc

pub kind_is : (k l : Kind) → same_kind k l ≡ true → k ≡ l
kind_is Char Char h = refl
kind_is UChar UChar h = refl
kind_is Short Short h = refl
kind_is UShort UShort h = refl
kind_is Int Int h = refl
kind_is UInt UInt h = refl
kind_is Long Long h = refl
kind_is ULong ULong h = refl
kind_is (Shared n b) (Shared m c) h =
    let p = and_parts (n == m) (b == c) h in
    let e = eqb-true n m p.0 in
    let f = eqb-true b c p.1 in
    cc
kind_is Lock Lock h = refl
kind_is (Private n) (Private m) h = ap Private (eqb-true n m h)
kind_is k l h = absurd cc

pub inner_is : (a b : Base) (c d : Bool) (s t : Option ℕ) (x y : Access) → (same_qualifiers c s x d t y && same_base a b) ≡ true → (same_base a b ≡ true → a ≡ b) → Qualified a c s x ≡ Qualified b d t y
inner_is a b c d s t x y h f =
    let q = and_parts (same_qualifiers c s x d t y) (same_base a b) h in
    let r = and_parts (same_bool c d) (same_block s t && same_access x y) q.0 in
    let v = and_parts (same_block s t) (same_access x y) r.1 in
    let e = f q.1 in
    let g = bool_is c d r.0 in
    let i = block_is s t v.0 in
    let j = access_is x y v.1 in
    cc

pub base_is : (a b : Base) → same_base a b ≡ true → a ≡ b
base_is Void Void h = refl
base_is (Integer k) (Integer l) h = ap Integer (kind_is k l h)
base_is (Struct m) (Struct n) h = ap Struct (eqb-true m n h)
base_is (Array (Qualified a c s x) m) (Array (Qualified b d t y) n) h =
    let p = and_parts (m == n) (same_qualifiers c s x d t y && same_base a b) h in
    let e = eqb-true m n p.0 in
    let f = inner_is a b c d s t x y p.1 (base_is a b) in
    cc
base_is (Pointer (Qualified a c s x)) (Pointer (Qualified b d t y)) h = ap Pointer (inner_is a b c d s t x y h (base_is a b))
base_is LockObject LockObject h = refl
base_is a b h = absurd cc

-- Targets that are alike have one base and one block.
pub parts : (t u : CType) → alike t u ≡ true → (base_of t ≡ base_of u) × (block_of t ≡ block_of u)
parts (Qualified a c s x) (Qualified b d t y) h = let p = and_parts (same_block s t) (same_base a b) h in (base_is a b p.1, block_is s t p.0)

alike_from : (t u : CType) → base_of t ≡ base_of u → block_of t ≡ block_of u → alike t u ≡ true
alike_from (Qualified a c s x) (Qualified b d t y) p q =
    subst (λ n. (same_block s n && same_base a b) ≡ true) q (subst (λ m. (same_block s s && same_base a m) ≡ true) p (alike_itself (Qualified a c s x)))

alike_same : (v t u : CType) → alike t u ≡ true → alike v t ≡ alike v u
alike_same (Qualified e g r z) (Qualified a c s x) (Qualified b d t y) h =
    let p = parts (Qualified a c s x) (Qualified b d t y) h in
    ap (λ n. same_block r n && same_base e a) p.1 ∙ ap (λ m. same_block r t && same_base e m) p.0

-- Targets that are alike have one number.
pub number_same : (targets : List CType) (t u : CType) → alike t u ≡ true → number_of targets t ≡ number_of targets u
number_same [] t u h = refl
number_same (v ∷ targets) t u h = rw (alike_same v t u h, number_same targets t u h) refl

found_one : (b : Bool) (v : CType) (targets : List CType) (t d : CType) → alike v t ≡ b → (if b then 0 else number_of targets t + 1) < length targets + 1 →
    (number_of targets t < length targets → alike (get_or targets (number_of targets t) d) t ≡ true) → alike (get_or (v ∷ targets) (if b then 0 else number_of targets t + 1) d) t ≡ true
found_one true v targets t d e h f = e
found_one false v targets t d e h f = let s : number_of targets t + 1 ≡ suc (number_of targets t) = omega arith in rw s (f (omega arith))

-- The target with the number is alike.
found : (targets : List CType) (t d : CType) → number_of targets t < length targets → alike (get_or targets (number_of targets t) d) t ≡ true
found [] t d h = absurd (omega arith)
found (v ∷ targets) t d h = found_one (alike v t) v targets t d refl (omega arith) (found targets t d)

same_number : (targets : List CType) (t u : CType) → number_of targets t < length targets → number_of targets u ≡ number_of targets t → alike t u ≡ true
same_number targets t u h e =
    let v = get_or targets (number_of targets t) t in
    let p = parts v t (found targets t t h) in
    let g : alike v u ≡ true = subst (λ n. alike (get_or targets n t) u ≡ true) e (found targets u t (omega arith)) in
    let q = parts v u g in
    alike_from t u (sym p.0 ∙ q.0) (sym p.1 ∙ q.1)

-- A number stands for one pointer type.
pub its_own : (targets : List CType) (t : CType) → IsItsOwn targets t (number_of targets t)
its_own targets t h u = (same_number targets t u h, λ a. sym (number_same targets t u a))
