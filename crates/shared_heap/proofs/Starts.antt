-- Which of numbered objects a pointer names the start of, and which is released.
use Rattle.std.proofs.Common.{◌≡◌, ℕ, ◌+◌, ◌<◌, ◌≤◌, ◌==◌, Bool, true, false, not, ◌&&◌, ◌||◌, List, [], ◌∷◌, length, get_or, set, refl, sym, ap, ◌∙◌, arith, eqb-true, eq-eqb}
use Rattle.std.proofs.lemmas.Bool.{and_parts, false_from_ne_true}
use Rattle.std.proofs.lemmas.List.{get_or_default}
use Rattle.std.specs.Ordering.{int_eq}
use Rattle.block_layout.specs.declared.place.ObjectRef.{ObjectRef}
use Rattle.block_layout.specs.declared.place.SharedPtr.{SharedPtr}
use Rattle.block_layout.specs.Pointers.{same_object, same_target}
use Rattle.block_layout.proofs.Pointers.{same_object-true}
use Rattle.shared_heap.specs.layer.Heap.{HeapState, all_declared, start_of, is_live_start, with_released, without_object, IsHeap}
use Rattle.shared_heap.specs.code.Kept.{IsKept}
use Rattle.shared_heap.proofs.Objects.{AreNumbered, numbered-behind, opening-numbered}

other-start : (p : SharedPtr) (x : ObjectRef) → (p.object.number ≡ x.number → ⊥) → same_target p (start_of x) ≡ false
other-start p x h =
    false_from_ne_true (same_target p (start_of x))
    (λ q. let a = and_parts (same_object p.object x && (p.thread == x.home)) (int_eq p.offset (start_of x).offset) q in
    let b = and_parts (same_object p.object x) (p.thread == x.home) a.0 in
    h (ap (λ z. z.number) (same_object-true p.object x b.0)))

or-false : (b : Bool) → (b || false) ≡ b
or-false true = refl
or-false false = refl

pub live-low : (from : ℕ) (p : SharedPtr) (xs : List ObjectRef) (rs : List Bool) → AreNumbered from xs → p.object.number < from → is_live_start p xs rs ≡ false
unfolding AreNumbered
live-low from p [] rs h lt = refl
live-low from p (x ∷ xs) [] h lt = refl
live-low from p (x ∷ xs) (r ∷ rs) h lt =
    let e = h.0 in
    ap (λ b. (b && not r) || is_live_start p xs rs) (other-start p x (λ q. omega arith))
    ∙ live-low (from + 1) p xs rs h.1 (omega arith)

pub live-past : (from : ℕ) (p : SharedPtr) (xs : List ObjectRef) (rs : List Bool) → AreNumbered from xs → from + length xs ≤ p.object.number → is_live_start p xs rs ≡ false
unfolding AreNumbered
live-past from p [] rs h le = refl
live-past from p (x ∷ xs) [] h le = refl
live-past from p (x ∷ xs) (r ∷ rs) h le =
    let e = h.0 in
    ap (λ b. (b && not r) || is_live_start p xs rs) (other-start p x (λ q. omega arith))
    ∙ live-past (from + 1) p xs rs h.1 (omega arith)

-- the object at that place alone
pub live-at : (from i : ℕ) (p : SharedPtr) (xs : List ObjectRef) (rs : List Bool) (d : ObjectRef) → AreNumbered from xs → length rs ≡ length xs
    → p.object.number ≡ from + i → i < length xs → is_live_start p xs rs ≡ (same_target p (start_of (get_or xs i d)) && not (get_or rs i false))
unfolding AreNumbered
live-at from i p [] rs d h n e lt = absurd (omega arith)
live-at from i p (x ∷ xs) [] d h n e lt = absurd (omega arith)
live-at from ℕ.zero p (x ∷ xs) (r ∷ rs) d h n e lt =
    ap (λ b. (same_target p (start_of x) && not r) || b) (live-low (from + 1) p xs rs h.1 (omega arith))
    ∙ or-false (same_target p (start_of x) && not r)
live-at from (ℕ.suc i) p (x ∷ xs) (r ∷ rs) d h n e lt =
    let z = h.0 in
    ap (λ b. (b && not r) || is_live_start p xs rs) (other-start p x (λ q. omega arith))
    ∙ live-at (from + 1) i p xs rs d h.1 (omega arith) (omega arith) (omega arith)

other-number : (x : ObjectRef) (n : ℕ) → (x.number ≡ n → ⊥) → (x.number == n) ≡ false
other-number x n h = false_from_ne_true (x.number == n) (λ q. h (eqb-true x.number n q))

released-low : (from n : ℕ) (xs : List ObjectRef) (rs : List Bool) → AreNumbered from xs → n < from → with_released n xs rs ≡ rs
unfolding AreNumbered
released-low from n [] rs h lt = refl
released-low from n (x ∷ xs) [] h lt = refl
released-low from n (x ∷ xs) (r ∷ rs) h lt =
    let e = h.0 in
    ap (λ b. (b || r) ∷ with_released n xs rs) (other-number x n (λ q. omega arith))
    ∙ ap (λ l. r ∷ l) (released-low (from + 1) n xs rs h.1 (omega arith))

-- that place alone becomes true
pub released-at : (from i : ℕ) (n : ℕ) (xs : List ObjectRef) (rs : List Bool) → AreNumbered from xs → length rs ≡ length xs → n ≡ from + i → i < length xs
    → with_released n xs rs ≡ set rs i true
unfolding AreNumbered
released-at from i n [] rs h l e lt = absurd (omega arith)
released-at from i n (x ∷ xs) [] h l e lt = absurd (omega arith)
released-at from ℕ.zero n (x ∷ xs) (r ∷ rs) h l e lt =
    let z = h.0 in
    ap (λ b. (b || r) ∷ with_released n xs rs) (eq-eqb x.number n (omega arith))
    ∙ ap (λ w. true ∷ w) (released-low (from + 1) n xs rs h.1 (omega arith))
released-at from (ℕ.suc i) n (x ∷ xs) (r ∷ rs) h l e lt =
    let z = h.0 in
    ap (λ b. (b || r) ∷ with_released n xs rs) (other-number x n (λ q. omega arith))
    ∙ ap (λ w. r ∷ w) (released-at (from + 1) i n xs rs h.1 (omega arith) (omega arith) (omega arith))

pub released-many : (n : ℕ) (xs : List ObjectRef) (rs : List Bool) → length (with_released n xs rs) ≡ length rs
released-many n [] rs = refl
released-many n (x ∷ xs) [] = refl
released-many n (x ∷ xs) (r ∷ rs) = let h = released-many n xs rs in omega arith

-- ---- in a heap

made-numbered : (h : HeapState) → IsHeap h → AreNumbered (length h.opening.declared + 1) h.made
made-numbered h v = numbered-behind 1 h.opening.declared h.made (opening-numbered (all_declared h) v.objects)

-- a number of a declared object
pub live-declared : (h : HeapState) (p : SharedPtr) → IsHeap h → p.object.number ≤ length h.opening.declared → is_live_start p h.made h.released ≡ false
live-declared h p v le = live-low (length h.opening.declared + 1) p h.made h.released (made-numbered h v) (omega arith)

-- a number of no object
pub live-none : (h : HeapState) (p : SharedPtr) → IsHeap h → length h.opening.declared + 1 + length h.made ≤ p.object.number → is_live_start p h.made h.released ≡ false
live-none h p v le = live-past (length h.opening.declared + 1) p h.made h.released (made-numbered h v) le

-- a number of an object that was made
live-made : (h : HeapState) (p : SharedPtr) (i : ℕ) (d : ObjectRef) → IsHeap h → p.object.number ≡ length h.opening.declared + 1 + i → i < length h.made
    → is_live_start p h.made h.released ≡ (same_target p (start_of (get_or h.made i d)) && not (get_or h.released i false))
live-made h p i d v e lt = live-at (length h.opening.declared + 1) i p h.made h.released d (made-numbered h v) v.flags e lt

-- it is another's start that the pointer names
pub live-elsewhere : (h : HeapState) (p : SharedPtr) (i : ℕ) (x : ObjectRef) → IsHeap h → p.object.number ≡ length h.opening.declared + 1 + i → i < length h.made
    → x ≡ get_or h.made i x → same_target p (start_of x) ≡ false → is_live_start p h.made h.released ≡ false
live-elsewhere h p i x v e lt at isnt =
    live-made h p i x v e lt
    ∙ ap (λ b. b && not (get_or h.released i false)) (ap (λ z. same_target p (start_of z)) (sym at) ∙ isnt)

-- it was released before
pub live-over : (h : HeapState) (p : SharedPtr) (i : ℕ) (r : Bool) → IsHeap h → p.object.number ≡ length h.opening.declared + 1 + i → i < length h.made
    → r ≡ get_or h.released i r → r ≡ true → is_live_start p h.made h.released ≡ false
live-over h p i r v e lt at is =
    let d : ObjectRef = p.object in
    let n = v.flags in
    let flag : get_or h.released i false ≡ true = get_or_default h.released i false r (omega arith) ∙ sym at ∙ is in
    live-made h p i d v e lt ∙ ap (λ b. same_target p (start_of (get_or h.made i d)) && not b) flag
    ∙ nothing (same_target p (start_of (get_or h.made i d)))
  where
    nothing : (b : Bool) → (b && false) ≡ false
    nothing true = refl
    nothing false = refl

-- neither
pub live-yes : (h : HeapState) (p : SharedPtr) (i : ℕ) (x : ObjectRef) (r : Bool) → IsHeap h → p.object.number ≡ length h.opening.declared + 1 + i → i < length h.made
    → x ≡ get_or h.made i x → same_target p (start_of x) ≡ true → r ≡ get_or h.released i r → r ≡ false → is_live_start p h.made h.released ≡ true
live-yes h p i x r v e lt at is there isnt =
    let n = v.flags in
    let flag : get_or h.released i false ≡ false = get_or_default h.released i false r (omega arith) ∙ sym there ∙ isnt in
    live-made h p i x v e lt
    ∙ ap (λ b. b && not (get_or h.released i false)) (ap (λ z. same_target p (start_of z)) (sym at) ∙ is)
    ∙ ap not flag

pub released-made : (h : HeapState) (n i : ℕ) → IsHeap h → n ≡ length h.opening.declared + 1 + i → i < length h.made
    → with_released n h.made h.released ≡ set h.released i true
released-made h n i v e lt = released-at (length h.opening.declared + 1) i n h.made h.released (made-numbered h v) v.flags e lt

-- it stays a heap
pub heap-released : (h : HeapState) (n : ℕ) → IsHeap h → IsHeap (without_object n h)
heap-released h n v = record {
  opening = v.opening;
  objects = v.objects;
  flags = released-many n h.made h.released ∙ v.flags;
}

pub kept-released : (h : HeapState) (n c : ℕ) → IsKept h c → IsKept (without_object n h) c
kept-released h n c k = record { heap = heap-released h n k.heap; bytes = k.bytes }
