-- A pointer moved by elements stands for the element that far on, and only that pointer does.
use Rattle.std.proofs.Common.{◌≡◌, ℕ, zero, suc, ◌+◌, ◌*◌, ◌<◌, refl, sym, ap, ◌∙◌, subst, arith}
use Rattle.std.proofs.Math.IntN.{ℤ, pos, ◌+ℤ◌, ◌-ℤ◌, ◌*ℤ◌}
use Rattle.std.proofs.lemmas.Int.{ints}
use Rattle.block_layout.specs.Floor.{floor_div}
use Rattle.block_layout.specs.Places.{thread_at, phase_at, offset_at}
use Rattle.block_layout.proofs.Pointers.{pointer-fields}
use Rattle.block_layout.specs.declared.place.SharedPtr.{SharedPtr}
use Rattle.block_layout.specs.Pointers.{StandsFor, element_in_row, moved, row_offset}
use Rattle.shared_pointers.specs.layer.Ranges.{IsPhase}
use Rattle.shared_pointers.specs.layer.Parts.{moved_by_blocks}
use Rattle.shared_pointers.specs.Steps.{LiesBehind, apart}
use Rattle.block_layout.proofs.Numbers.{floor_div-unique, floor_mod-unique, floor_mod-below, mul-sum, mul-twice, row-below, by_row, floor_div-twice}

-- The element t blocks of b and ph further in row R.
abbrev pub in_row : ℤ → ℕ → ℕ → ℕ → ℕ → ℤ
in_row R t ph b T = R *ℤ pos (b * T) +ℤ pos (t * b + ph)

block-in_row : (R : ℤ) (t ph b T : ℕ) → t < T → ph < b → floor_div (in_row R t ph b T) b ≡ R *ℤ pos T +ℤ pos t
block-in_row R t ph b T h k =
    floor_div-unique (in_row R t ph b T) (R *ℤ pos T +ℤ pos t) ph b k
    (omega (arith, ints, mul-sum (R *ℤ pos T) (pos t) b, mul-twice R T b))

pub phase-in_row : (R : ℤ) (t ph b T : ℕ) → t < T → ph < b → phase_at (in_row R t ph b T) b ≡ ph
phase-in_row R t ph b T h k =
    floor_mod-unique (in_row R t ph b T) (R *ℤ pos T +ℤ pos t) ph b k
    (omega (arith, ints, mul-sum (R *ℤ pos T) (pos t) b, mul-twice R T b))

pub thread-in_row : (R : ℤ) (t ph b T : ℕ) → t < T → ph < b → thread_at (in_row R t ph b T) b T ≡ t
thread-in_row R t ph b T h k = rw (block-in_row R t ph b T h k) (floor_mod-unique (R *ℤ pos T +ℤ pos t) R t T h refl)

pub row-in_row : (R : ℤ) (t ph b T : ℕ) → t < T → ph < b → floor_div (in_row R t ph b T) (b * T) ≡ R
row-in_row R t ph b T h k = floor_div-unique (in_row R t ph b T) R (t * b + ph) (b * T) (row-below t ph b T h k) refl

-- Each element by its row, thread and phase.
pub as_in_row : (e : ℤ) (b T : ℕ) → 0 < b → 0 < T → in_row (floor_div e (b * T)) (thread_at e b T) (phase_at e b) b T ≡ e
as_in_row e b T h k = rw (floor_div-twice e b T h k) (by_row e b T h k)

-- m rows further: the same thread and phase, and m blocks more before the element.
further : (e m : ℤ) (b T : ℕ) → 0 < b → 0 < T → in_row (floor_div e (b * T) +ℤ m) (thread_at e b T) (phase_at e b) b T ≡ e +ℤ m *ℤ pos (b * T)
further e m b T h k = omega (arith, ints, as_in_row e b T h k, mul-sum (floor_div e (b * T)) m (b * T))

pub thread-further : (e m : ℤ) (b T : ℕ) → 0 < b → 0 < T → thread_at (e +ℤ m *ℤ pos (b * T)) b T ≡ thread_at e b T
thread-further e m b T h k =
    rw (← further e m b T h k) (thread-in_row (floor_div e (b * T) +ℤ m) (thread_at e b T) (phase_at e b) b T (floor_mod-below (floor_div e b) T k) (floor_mod-below e b h))

pub phase-further : (e m : ℤ) (b T : ℕ) → 0 < b → 0 < T → phase_at (e +ℤ m *ℤ pos (b * T)) b ≡ phase_at e b
phase-further e m b T h k =
    rw (← further e m b T h k) (phase-in_row (floor_div e (b * T) +ℤ m) (thread_at e b T) (phase_at e b) b T (floor_mod-below (floor_div e b) T k) (floor_mod-below e b h))

row-further : (e m : ℤ) (b T : ℕ) → 0 < b → 0 < T → floor_div (e +ℤ m *ℤ pos (b * T)) (b * T) ≡ floor_div e (b * T) +ℤ m
row-further e m b T h k =
    rw (← further e m b T h k) (row-in_row (floor_div e (b * T) +ℤ m) (thread_at e b T) (phase_at e b) b T (floor_mod-below (floor_div e b) T k) (floor_mod-below e b h))

pub offset-further : (e m : ℤ) (b s T : ℕ) → 0 < b → 0 < T → offset_at (e +ℤ m *ℤ pos (b * T)) b s T ≡ offset_at e b s T +ℤ m *ℤ pos b *ℤ pos s
offset-further e m b s T h k =
    rw (row-further e m b T h k, phase-further e m b T h k)
    (omega (arith, ints, mul-sum (floor_div e (b * T)) m b, mul-sum (floor_div e (b * T) *ℤ pos b +ℤ pos (phase_at e b)) (m *ℤ pos b) s, ap (λ (z : ℤ). z *ℤ pos s) (let swap : (floor_div e (b * T) +ℤ m) *ℤ pos b +ℤ pos (phase_at e b) ≡ (floor_div e (b * T) *ℤ pos b +ℤ pos (phase_at e b)) +ℤ m *ℤ pos b = omega (arith, ints, mul-sum (floor_div e (b * T)) m b) in swap)))

-- ---- pointers

-- The element of a pointer by its row.
row_of : (p : SharedPtr) (e d : ℤ) (b s T : ℕ) → 0 < b → 0 < T → StandsFor p e d b s T → p.phase ≡ phase_at e b → in_row (floor_div e (b * T)) p.thread p.phase b T ≡ e
row_of p e d b s T h k stands phase = rw (stands.thread h, phase) (as_in_row e b T h k)

-- i elements on, counted from the element or from the first of its row.
on : (p : SharedPtr) (i e d : ℤ) (b s T : ℕ) → 0 < b → 0 < T → StandsFor p e d b s T → p.phase ≡ phase_at e b → (pos (element_in_row p b) +ℤ i) +ℤ floor_div e (b * T) *ℤ pos (b * T) ≡ e +ℤ i
on p i e d b s T h k stands phase = omega (arith, ints, row_of p e d b s T h k stands phase)

-- The bytes of the rows before an element, and those of its phase.
offset-parts : (e : ℤ) (b s T : ℕ) → offset_at e b s T ≡ floor_div e (b * T) *ℤ pos b *ℤ pos s +ℤ pos (phase_at e b * s)
offset-parts e b s T = omega (arith, ints, mul-sum (floor_div e (b * T) *ℤ pos b) (pos (phase_at e b)) s)

moved-blocks : (p : SharedPtr) (i e d : ℤ) (b s T : ℕ) → 0 < T → StandsFor p e d (suc b) s T → StandsFor (moved p i (suc b) s T) (e +ℤ i) d (suc b) s T
moved-blocks p i e d b s T k stands =
    let h : 0 < suc b = omega arith in
    let R : ℤ = floor_div e (suc b * T) in
    let from : ℤ = pos (element_in_row p (suc b)) +ℤ i in
    let same : from +ℤ R *ℤ pos (suc b * T) ≡ e +ℤ i = on p i e d (suc b) s T h k stands stands.phase in
    let offset : p.offset ≡ offset_at e (suc b) s T +ℤ d = stands.offset in
    let phase : pos (p.phase * s) ≡ pos (phase_at e (suc b) * s) = ap (λ n. pos (n * s)) stands.phase in
    record {
      thread = λ _. rw (← same) (sym (thread-further from R (suc b) T h k));
      phase = rw (← same) (sym (phase-further from R (suc b) T h k));
      offset = rw (← same, offset-further from R (suc b) s T h k) (omega (arith, ints, offset, phase, offset-parts e (suc b) s T));
    }

moved-along : (p : SharedPtr) (i e d : ℤ) (s T : ℕ) → StandsFor p e d 0 s T → StandsFor (moved p i 0 s T) (e +ℤ i) d 0 s T
moved-along p i e d s T stands =
    let offset : p.offset ≡ e *ℤ pos s +ℤ d = stands.offset in
    record {
      thread = λ h. absurd (omega (arith, h));
      phase = stands.phase;
      offset = omega (arith, ints, offset, mul-sum e i s);
    }

-- A pointer moved by i stands for the element i on, with the same shift.
pub moved-stands : (p : SharedPtr) (i e d : ℤ) (b s T : ℕ) → 0 < T → StandsFor p e d b s T → StandsFor (moved p i b s T) (e +ℤ i) d b s T
moved-stands p i e d zero s T k stands = moved-along p i e d s T stands
moved-stands p i e d (suc b) s T k stands = moved-blocks p i e d b s T k stands

pub moved-object : (p : SharedPtr) (i : ℤ) (b s T : ℕ) → (moved p i b s T).object ≡ p.object
moved-object p i zero s T = refl
moved-object p i (suc b) s T = refl

pub moved-thread : (p : SharedPtr) (i : ℤ) (b s T : ℕ) → b ≡ 0 → (moved p i b s T).thread ≡ p.thread
moved-thread p i zero s T h = refl
moved-thread p i (suc b) s T h = absurd (omega (arith, h))

pub moved-behind : (p : SharedPtr) (i : ℤ) (b s T : ℕ) → 0 < T → LiesBehind p (moved p i b s T) i b s T
moved-behind p i b s T k =
    record {
      object = moved-object p i b s T;
      thread = moved-thread p i b s T;
      element = λ e d. moved-stands p i e d b s T k;
    }

-- A pointer stands for the element in its row, with the shift of its row.
first-blocks : (p : SharedPtr) (e : ℤ) (b s T : ℕ) → in_row (pos 0) p.thread p.phase (suc b) T ≡ e → p.thread < T → p.phase < suc b → StandsFor p e (row_offset p s) (suc b) s T
first-blocks p e b s T here h k =
    let thread : thread_at e (suc b) T ≡ p.thread = subst (λ (z : ℤ). thread_at z (suc b) T ≡ p.thread) here (thread-in_row (pos 0) p.thread p.phase (suc b) T h k) in
    let phase : phase_at e (suc b) ≡ p.phase = subst (λ (z : ℤ). phase_at z (suc b) ≡ p.phase) here (phase-in_row (pos 0) p.thread p.phase (suc b) T h k) in
    let row : floor_div e (suc b * T) ≡ pos 0 = subst (λ (z : ℤ). floor_div z (suc b * T) ≡ pos 0) here (row-in_row (pos 0) p.thread p.phase (suc b) T h k) in
    let bytes : offset_at e (suc b) s T ≡ pos (p.phase * s) = rw (row, phase) (omega (arith, ints)) in
    record {
      thread = λ _. sym thread;
      phase = sym phase;
      offset = omega (arith, ints, bytes);
    }

-- Every pointer stands for some element with some shift.
pub stands-somewhere : (p : SharedPtr) (b s T : ℕ) → p.thread < T → IsPhase p.phase b → (e : ℤ) × ((d : ℤ) × StandsFor p e d b s T)
stands-somewhere p zero s T h k = (pos 0, (p.offset, record { thread = λ l. absurd (omega (arith, l)); phase = k; offset = omega (arith, ints) }))
stands-somewhere p (suc b) s T h k = (pos (element_in_row p (suc b)), (row_offset p s, first-blocks p (pos (element_in_row p (suc b))) b s T (omega (arith, ints)) h k))

-- Two pointers of one object, with an indefinite block on one thread, that stand for one element with one shift are
-- equal.
pub stands-unique : (q r : SharedPtr) (e d : ℤ) (b s T : ℕ) → q.object ≡ r.object → (b ≡ 0 → q.thread ≡ r.thread) → StandsFor q e d b s T → StandsFor r e d b s T → q ≡ r
stands-unique q r e d zero s T same thread h k = pointer-fields q r same (thread refl) (h.phase ∙ sym k.phase) (h.offset ∙ sym k.offset)
stands-unique q r e d (suc b) s T same thread h k =
    let some : 0 < suc b = omega arith in
    pointer-fields q r same (h.thread some ∙ sym (k.thread some)) (h.phase ∙ sym k.phase) (h.offset ∙ sym k.offset)

-- A pointer moved by x lies x apart.
apart-along : (p : SharedPtr) (x : ℤ) (s T : ℕ) → 0 < s → apart (moved p x 0 s T) p 0 s T ≡ x
apart-along p x s T h = floor_div-unique (p.offset +ℤ x *ℤ pos s -ℤ p.offset) x 0 s h (omega (arith, ints))

some_product : (b s : ℕ) → 0 < s → 0 < suc b * s
some_product b s h = omega arith

apart-blocks : (p : SharedPtr) (x : ℤ) (b s T : ℕ) → 0 < s → 0 < T → apart (moved p x (suc b) s T) p (suc b) s T ≡ x
apart-blocks p x b s T h k =
    let some : 0 < suc b = omega arith in
    let e : ℤ = pos (element_in_row p (suc b)) +ℤ x in
    let R : ℤ = floor_div e (suc b * T) in
    let q : SharedPtr = moved_by_blocks p x (suc b) s T in
    let bytes : R *ℤ pos (suc b * s) +ℤ pos 0 ≡ row_offset q s -ℤ row_offset p s = omega (arith, ints, offset-parts e (suc b) s T, mul-twice R (suc b) s) in
    let rows : floor_div (row_offset q s -ℤ row_offset p s) (suc b * s) ≡ R = floor_div-unique (row_offset q s -ℤ row_offset p s) R 0 (suc b * s) (some_product b s h) bytes in
    rw rows (omega (arith, ints, as_in_row e (suc b) T some k, mul-twice R (suc b) T))

pub apart-moved : (p : SharedPtr) (x : ℤ) (b s T : ℕ) → 0 < s → 0 < T → apart (moved p x b s T) p b s T ≡ x
apart-moved p x zero s T h k = apart-along p x s T h
apart-moved p x (suc b) s T h k = apart-blocks p x b s T h k

-- Only p moved by x lies x elements after p.
pub behind-moved : (p q : SharedPtr) (x : ℤ) (b s T : ℕ) → p.thread < T → IsPhase p.phase b → LiesBehind p q x b s T → q ≡ moved p x b s T
behind-moved p q x b s T h k behind =
    let some : (e : ℤ) × ((d : ℤ) × StandsFor p e d b s T) = stands-somewhere p b s T h k in
    let there : LiesBehind p (moved p x b s T) x b s T = moved-behind p x b s T (omega arith) in
    stands-unique q (moved p x b s T) (some.0 +ℤ x) some.1.0 b s T
    (behind.object ∙ sym there.object)
    (λ z. behind.thread z ∙ sym (there.thread z))
    (behind.element some.0 some.1.0 some.1.1)
    (there.element some.0 some.1.0 some.1.1)
