-- What the answers of pointer arithmetic say of elements.
use Rattle.std.proofs.Common.{◌≡◌, ℕ, ◌<◌, ◌^◌, ◌↔◌, int_le, ◌&&◌, Bool, true, false, not, Result, Ok, Err, IfOk, IsErrOf, refl, sym, ap, ◌∙◌, subst, arith, if◌then◌else◌}
use Rattle.std.proofs.Math.IntN.{ℤ, pos, neg_ℤ, ◌+ℤ◌}
use Rattle.std.proofs.lemmas.Int.{ints}
use Rattle.std.proofs.lemmas.Bool.{and_parts, and_from}
use Rattle.std.specs.declared.cmp.Ordering.{Ordering}
use Rattle.std.specs.Ordering.{int_cmp}
use Rattle.block_layout.specs.declared.place.SharedPtr.{SharedPtr}
use Rattle.block_layout.specs.declared.run_error.TheConstants.{NULL_ACCESS, POINTER_RANGE, POINTER_PAIR}
use Rattle.block_layout.specs.Places.{InRange, in_range}
use Rattle.block_layout.specs.Pointers.{StandsFor, IsNull, is_null, null, element_offset, same_pointer, moved}
use Rattle.block_layout.proofs.Pointers.{same_pointer-true, same_pointer-refl, null-false}
use Rattle.block_layout.proofs.Ranges.{in_range-true, in_range-false}
use Rattle.shared_pointers.specs.layer.Ranges.{IsPhase}
use Rattle.shared_pointers.specs.Steps.{LiesBehind, advanced, apart, difference, order_of}
use Rattle.shared_pointers.proofs.Elements.{moved-behind, moved-stands, behind-moved, apart-moved}

-- The test of null.
null-true : (p : SharedPtr) → is_null p ≡ true → IsNull p
null-true p h = same_pointer-true p null h

not_null : (p : SharedPtr) → is_null p ≡ false → ¬ (IsNull p)
not_null p h e = let t : is_null p ≡ true = subst (λ (q : SharedPtr). is_null q ≡ true) (sym e) refl in cc

-- ---- `p + i`

pub advanced-behind : (p : SharedPtr) (i : ℤ) (b s T : ℕ) (r : Result SharedPtr ℕ) → 0 < T → r ≡ advanced p i b s T → IfOk r (λ q. LiesBehind p q i b s T)
advanced-behind p i b s T r k e = subst (λ (x : Result SharedPtr ℕ). IfOk x (λ q. LiesBehind p q i b s T)) (sym e) (tested (is_null p) (in_range (moved p i b s T).offset))
  where
    tested : (n o : Bool) → IfOk (if n then Err NULL_ACCESS else if o then Ok (moved p i b s T) else Err POINTER_RANGE) (λ q. LiesBehind p q i b s T)
    tested true o = tt
    tested false true = moved-behind p i b s T k
    tested false false = tt

pub advanced-range : (p : SharedPtr) (i e d : ℤ) (b s T : ℕ) (r : Result SharedPtr ℕ) → 0 < T → r ≡ advanced p i b s T → StandsFor p e d b s T → (IsErrOf r POINTER_RANGE ↔ ((¬ (IsNull p)) × (¬ (InRange (element_offset (e +ℤ i) b s T +ℤ d)))))
advanced-range p i e d b s T r k is stands =
    let q : SharedPtr = moved p i b s T in
    let there : StandsFor q (e +ℤ i) d b s T = moved-stands p i e d b s T k stands in
    subst (λ (z : ℤ). IsErrOf r POINTER_RANGE ↔ ((¬ (IsNull p)) × (¬ (InRange z)))) there.offset
    (subst (λ (x : Result SharedPtr ℕ). IsErrOf x POINTER_RANGE ↔ ((¬ (IsNull p)) × (¬ (InRange q.offset)))) (sym is)
    (tested p q (is_null p) (in_range q.offset) refl refl))
  where
    tested : (p q : SharedPtr) (n o : Bool) → is_null p ≡ n → in_range q.offset ≡ o → (IsErrOf {T = SharedPtr} {E = ℕ} (if n then Err NULL_ACCESS else if o then Ok q else Err POINTER_RANGE) POINTER_RANGE ↔ ((¬ (IsNull p)) × (¬ (InRange q.offset))))
    tested p q true o h g = (λ x. absurd (cc), λ x. absurd (x.0 (null-true p h)))
    tested p q false true h g = (λ x. absurd (cc), λ x. absurd (x.1 (in_range-true q.offset g)))
    tested p q false false h g = (λ x. (not_null p h, in_range-false q.offset g), λ x. refl)

-- ---- `q - p`

-- What the two tests of null and the test of the place decide.
found : (p q : SharedPtr) (y x : ℤ) (b s T : ℕ) (n m t : Bool) → 0 < T → is_null p ≡ n → is_null q ≡ m → same_pointer q (moved p y b s T) ≡ t → (if not n && not m && t then Ok y else Err POINTER_PAIR) ≡ Ok x → (¬ (IsNull p)) × (¬ (IsNull q)) × LiesBehind p q x b s T
found p q y x b s T true m t k h g f e = absurd (cc)
found p q y x b s T false true t k h g f e = absurd (cc)
found p q y x b s T false false false k h g f e = absurd (cc)
found p q y x b s T false false true k h g f e =
    let same : y ≡ x = cc in
    let there : q ≡ moved p x b s T = same_pointer-true q (moved p y b s T) f ∙ ap (λ (z : ℤ). moved p z b s T) same in
    (not_null p h, not_null q g, subst (λ (r : SharedPtr). LiesBehind p r x b s T) (sym there) (moved-behind p x b s T k))

answered : (p q : SharedPtr) (x : ℤ) (b s T : ℕ) → 0 < s → 0 < T → p.thread < T → IsPhase p.phase b → (¬ (IsNull p)) × (¬ (IsNull q)) × LiesBehind p q x b s T → difference q p b s T ≡ Ok x
answered p q x b s T l k h g all =
    let there : q ≡ moved p x b s T = behind-moved p q x b s T h g all.2 in
    let far : apart q p b s T ≡ x = subst (λ (r : SharedPtr). apart r p b s T ≡ x) (sym there) (apart-moved p x b s T l k) in
    let test : same_pointer q (moved p x b s T) ≡ true = subst (λ (r : SharedPtr). same_pointer q r ≡ true) there (same_pointer-refl q) in
    let place : same_pointer q (moved p (apart q p b s T) b s T) ≡ true = subst (λ (z : ℤ). same_pointer q (moved p z b s T) ≡ true) (sym far) test in
    decided (is_null p) (is_null q) (same_pointer q (moved p (apart q p b s T) b s T)) (apart q p b s T) x (null-false p all.0) (null-false q all.1) place far
  where
    decided : (n m t : Bool) (y x : ℤ) → n ≡ false → m ≡ false → t ≡ true → y ≡ x → ◌≡◌ {A = Result ℤ ℕ} (if not n && not m && t then Ok y else Err POINTER_PAIR) (Ok x)
    decided true m t y x a b c d = absurd (cc)
    decided false true t y x a b c d = absurd (cc)
    decided false false false y x a b c d = absurd (cc)
    decided false false true y x a b c d = ap Ok d

pub difference-exact : (q p : SharedPtr) (x : ℤ) (b s T : ℕ) (r : Result ℤ ℕ) → 0 < s → 0 < T → p.thread < T → IsPhase p.phase b → r ≡ difference q p b s T → ((r ≡ Ok x) ↔ ((¬ (IsNull p)) × (¬ (IsNull q)) × LiesBehind p q x b s T))
difference-exact q p x b s T r l k h g is = (
  λ e. found p q (apart q p b s T) x b s T (is_null p) (is_null q) (same_pointer q (moved p (apart q p b s T) b s T)) k refl refl refl (sym is ∙ e),
  λ all. is ∙ answered p q x b s T l k h g all,
)

-- ---- comparisons

pub order-behind : (q p : SharedPtr) (x : ℤ) (b s T : ℕ) (r : Result Ordering ℕ) → 0 < s → 0 < T → p.thread < T → IsPhase p.phase b → r ≡ order_of (difference q p b s T) → ¬ (IsNull p) → ¬ (IsNull q) → LiesBehind p q x b s T → r ≡ Ok (int_cmp x (pos 0))
order-behind q p x b s T r l k h g is n m behind = is ∙ ap order_of (answered p q x b s T l k h g (n, m, behind))

pub order-ok : (q p : SharedPtr) (b s T : ℕ) (r : Result Ordering ℕ) → 0 < s → 0 < T → p.thread < T → IsPhase p.phase b → r ≡ order_of (difference q p b s T) → IfOk r (λ o. (x : ℤ) × ((¬ (IsNull p)) × (¬ (IsNull q)) × LiesBehind p q x b s T × (o ≡ int_cmp x (pos 0))))
order-ok q p b s T r l k h g is =
    subst (λ (v : Result Ordering ℕ). IfOk v (λ o. (x : ℤ) × ((¬ (IsNull p)) × (¬ (IsNull q)) × LiesBehind p q x b s T × (o ≡ int_cmp x (pos 0))))) (sym is)
    (tested (difference q p b s T) refl)
  where
    tested : (d : Result ℤ ℕ) → d ≡ difference q p b s T → IfOk (order_of d) (λ o. (x : ℤ) × ((¬ (IsNull p)) × (¬ (IsNull q)) × LiesBehind p q x b s T × (o ≡ int_cmp x (pos 0))))
    tested (Err code) e = tt
    tested (Ok x) e =
        let all : (¬ (IsNull p)) × (¬ (IsNull q)) × LiesBehind p q x b s T = (difference-exact q p x b s T (Ok x) l k h g e).0 refl in
        (x, (all.0, all.1, all.2, refl))
