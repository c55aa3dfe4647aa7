-- What the tests on locations and scalars mean.
use Rattle.std.proofs.Common.{◌≡◌, ℕ, ◌==◌, ◌&&◌, true, false, refl, sym, ap, ◌∙◌, subst, eqb-true, eq-eqb}
use Rattle.std.proofs.lemmas.Bool.{and_parts, and_from, false≢true, false_from_ne_true}
use Rattle.std.proofs.lemmas.Bool.Decides.{Decides-int_eq}
use Rattle.block_layout.specs.declared.place.Loc.{Loc}
use Rattle.block_layout.proofs.Pointers.{same_pointer-true}
use Rattle.upc_values.specs.declared.scalar.Scalar.{Scalar}
use Rattle.upc_values.specs.declared.scalar.Scalar.TheVariants.{Int, Shared, Lock}
use Rattle.upc_values.specs.Scalars.{same_loc, same_scalar}

loc-parts : (l k : Loc) → l.object ≡ k.object → l.thread ≡ k.thread → l.offset ≡ k.offset → l ≡ k
loc-parts l k x y z =
    let P : ℕ → ℕ → ℕ → Type 0 = λ a b c. l ≡ record { object = a; thread = b; offset = c } in
    subst (λ c. P k.object k.thread c) z (subst (λ b. P k.object b l.offset) y (subst (λ a. P a l.thread l.offset) x refl))

pub same_loc-true : (l k : Loc) → same_loc l k ≡ true → l ≡ k
same_loc-true l k h =
    let a = and_parts (l.object == k.object) ((l.thread == k.thread) && (l.offset == k.offset)) h in
    let b = and_parts (l.thread == k.thread) (l.offset == k.offset) a.1 in
    let x = eqb-true l.object k.object a.0 in
    let y = eqb-true l.thread k.thread b.0 in
    let z = eqb-true l.offset k.offset b.1 in
    loc-parts l k x y z

pub same_loc-itself : (l : Loc) → same_loc l l ≡ true
same_loc-itself l =
    and_from (l.object == l.object) ((l.thread == l.thread) && (l.offset == l.offset)) (eq-eqb l.object l.object refl)
    (and_from (l.thread == l.thread) (l.offset == l.offset) (eq-eqb l.thread l.thread refl) (eq-eqb l.offset l.offset refl))

pub same_loc-other : (l k : Loc) → same_loc k l ≡ false → same_loc l k ≡ false
same_loc-other l k h =
    false_from_ne_true (same_loc l k)
    (λ t. false≢true (sym h ∙ ap (λ z. same_loc z l) (sym (same_loc-true l k t)) ∙ same_loc-itself l))

pub same_scalar-true : (v w : Scalar) → same_scalar v w ≡ true → v ≡ w
same_scalar-true (Int a) (Int b) h = ap Int ((Decides-int_eq a b).0 h)
same_scalar-true (Shared p) (Shared q) h = ap Shared (same_pointer-true p q h)
same_scalar-true (Lock a) (Lock b) h = ap Lock (eqb-true a b h)
same_scalar-true (Int a) (Shared q) h = absurd (false≢true h)
same_scalar-true (Int a) (Lock b) h = absurd (false≢true h)
same_scalar-true (Shared p) (Int b) h = absurd (false≢true h)
same_scalar-true (Shared p) (Lock b) h = absurd (false≢true h)
same_scalar-true (Lock a) (Int b) h = absurd (false≢true h)
same_scalar-true (Lock a) (Shared q) h = absurd (false≢true h)
