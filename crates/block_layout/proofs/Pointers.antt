-- The tests of pointers decide their equalities.
use Rattle.std.proofs.Common.{◌≡◌, ℕ, ◌==◌, Bool, true, false, refl}
use Rattle.std.proofs.Math.IntN.{ℤ}
use Rattle.std.specs.Ordering.{int_eq}
use Rattle.std.proofs.lemmas.Bool.{and_parts, eqb-true, eq-eqb}
use Rattle.std.proofs.lemmas.Bool.Decides.{Decides-int_eq}
use Rattle.block_layout.specs.declared.place.ObjectRef.{ObjectRef}
use Rattle.block_layout.specs.declared.place.SharedPtr.{SharedPtr}
use Rattle.block_layout.specs.Pointers.{same_object, same_pointer, is_null, null, IsNull}

-- An object and a pointer by their fields.
abbrev object_of : ℕ → ℕ → ℕ → ℕ → ℕ → ℕ → ObjectRef
object_of n t b h s a = record { number = n; total = t; block = b; home = h; shape = s; base = a }

abbrev pointer_of : ObjectRef → ℕ → ℕ → ℤ → SharedPtr
pointer_of o t f z = record { object = o; thread = t; phase = f; offset = z }

pub pointer-fields : (q r : SharedPtr) → q.object ≡ r.object → q.thread ≡ r.thread → q.phase ≡ r.phase → q.offset ≡ r.offset → q ≡ r
pointer-fields q r a b c d =
    let e : pointer_of q.object q.thread q.phase q.offset ≡ pointer_of r.object r.thread r.phase r.offset = cc in e

pub same_object-true : (a b : ObjectRef) → same_object a b ≡ true → a ≡ b
same_object-true a b h =
    let five : (_ ≡ true) × (_ ≡ true) = and_parts _ (a.base == b.base) h in
    let four : (_ ≡ true) × (_ ≡ true) = and_parts _ (a.shape == b.shape) five.0 in
    let three : (_ ≡ true) × (_ ≡ true) = and_parts _ (a.home == b.home) four.0 in
    let two : (_ ≡ true) × (_ ≡ true) = and_parts _ (a.block == b.block) three.0 in
    let one : (_ ≡ true) × (_ ≡ true) = and_parts (a.number == b.number) (a.total == b.total) two.0 in
    let number : a.number ≡ b.number = eqb-true a.number b.number one.0 in
    let total : a.total ≡ b.total = eqb-true a.total b.total one.1 in
    let block : a.block ≡ b.block = eqb-true a.block b.block two.1 in
    let home : a.home ≡ b.home = eqb-true a.home b.home three.1 in
    let shape : a.shape ≡ b.shape = eqb-true a.shape b.shape four.1 in
    let base : a.base ≡ b.base = eqb-true a.base b.base five.1 in
    let e : object_of a.number a.total a.block a.home a.shape a.base ≡ object_of b.number b.total b.block b.home b.shape b.base = cc in
    e

pub same_pointer-true : (p q : SharedPtr) → same_pointer p q ≡ true → p ≡ q
same_pointer-true p q h =
    let three : (_ ≡ true) × (_ ≡ true) = and_parts _ (int_eq p.offset q.offset) h in
    let two : (_ ≡ true) × (_ ≡ true) = and_parts _ (p.phase == q.phase) three.0 in
    let one : (_ ≡ true) × (_ ≡ true) = and_parts (same_object p.object q.object) (p.thread == q.thread) two.0 in
    pointer-fields p q (same_object-true p.object q.object one.0) (eqb-true p.thread q.thread one.1) (eqb-true p.phase q.phase two.1) ((Decides-int_eq p.offset q.offset).0 three.1)

pub same_object-refl : (a : ObjectRef) → same_object a a ≡ true
same_object-refl a =
    rw (eq-eqb a.number a.number refl, eq-eqb a.total a.total refl, eq-eqb a.block a.block refl, eq-eqb a.home a.home refl, eq-eqb a.shape a.shape refl, eq-eqb a.base a.base refl) refl

pub same_pointer-refl : (p : SharedPtr) → same_pointer p p ≡ true
same_pointer-refl p =
    rw (same_object-refl p.object, eq-eqb p.thread p.thread refl, eq-eqb p.phase p.phase refl, (Decides-int_eq p.offset p.offset).1 refl) refl

pub null-false : (p : SharedPtr) → ¬ (IsNull p) → is_null p ≡ false
null-false p n = tested (is_null p) (λ y. n (same_pointer-true p null y))
  where
    tested : (b : Bool) → ¬ (b ≡ true) → b ≡ false
    tested true h = absurd (h refl)
    tested false h = refl
