-- Which bytes the copies of a cell begin at.
use Rattle.std.proofs.Common.{◌≡◌, ℕ, zero, suc, ◌+◌, ◌-◌, ◌*◌, ◌/◌, ◌%◌, ◌<◌, ◌≤◌, ◌==◌, ◌||◌, inl, inr, Bool, true, false, nat_eq, nat_lt, refl, sym, ap, ◌∙◌, subst, arith}
use Rattle.std.proofs.lemmas.Nat.{mod-mul-add, div-add-mod'}
use Rattle.std.proofs.lemmas.Bool.{cases_lt}
use Rattle.std.proofs.lemmas.Bool.Decides.{eqb_tells, leb_tells}
use Rattle.block_layout.specs.code.Runs.{hits}
use Rattle.block_layout.proofs.Within.{last_copy}

or_right : (a b : Bool) → b ≡ true → (a || b) ≡ true
or_right true b h = refl
or_right false b h = h

pub hits_none : (start stride n offset place : ℕ) → ((i : ℕ) → i < n → start + (i * stride + offset) ≡ place → ⊥) → hits start stride n offset place ≡ false
hits_none start stride zero offset place h = refl
hits_none start stride (suc n) offset place h =
    let before = hits_none start stride n offset place (λ i l e. h i (omega arith) e) in
    elim (eqb_tells (start + (n * stride + offset)) place) [
      | inl y ↦ absurd (h n (omega arith) y.1)
      | inr k ↦ rw (before, k.0) refl
    ]

pub hits_some : (start stride n offset place i : ℕ) → i < n → start + (i * stride + offset) ≡ place → hits start stride n offset place ≡ true
hits_some start stride zero offset place i l e = absurd (omega arith)
hits_some start stride (suc n) offset place i l e =
    elim (cases_lt i n) [
      | inl p ↦ ap (λ b. b || (start + (n * stride + offset)) == place) (hits_some start stride n offset place i p e)
      | inr p ↦ let same : i ≡ n = omega arith in
          elim (eqb_tells (start + (n * stride + offset)) place) [
            | inl y ↦ or_right (hits start stride n offset place) ((start + (n * stride + offset)) == place) y.0
            | inr k ↦ absurd (k.1 (subst (λ m. start + (m * stride + offset) ≡ place) same e))
          ]
    ]

-- A byte before the first copy.
pub reach_low : (start stride n offset place : ℕ) → place < start + offset → false ≡ hits start stride n offset place
reach_low start stride n offset place h = sym (hits_none start stride n offset place (λ i l e. omega arith))

-- Copies at one place.
pub reach_still : (start stride n offset place : ℕ) → start + offset ≤ place → stride ≡ 0 → 0 < n → nat_eq (place - (start + offset)) 0 ≡ hits start stride n offset place
reach_still start stride n offset place l still some =
    elim (eqb_tells (place - (start + offset)) 0) [
      | inl y ↦ let e : start + (0 * stride + offset) ≡ place = omega (arith, y.1) in y.0 ∙ sym (hits_some start stride n offset place 0 some e)
      | inr k ↦ k.0 ∙ sym (hits_none start stride n offset place (λ i b e. k.1 (let z : i * stride ≡ i * 0 = ap (λ m. i * m) still in omega (arith, z, e))))
    ]

-- Copies one after the other.
pub reach_step : (start stride n offset place gap : ℕ) → gap + (start + offset) ≡ place → 0 < stride → gap % stride ≡ 0 → nat_lt (gap / stride) n ≡ hits start stride n offset place
reach_step start stride n offset place gap is some whole =
    let q : ℕ = gap / stride in
    let all : q * stride ≡ gap = omega (arith, div-add-mod' gap stride) in
    elim (leb_tells (suc q) n) [
      | inl y ↦ y.0 ∙ sym (hits_some start stride n offset place q (omega (arith, y.1)) (omega arith))
      | inr k ↦ k.0 ∙ sym (hits_none start stride n offset place (λ i b e. let f = last_copy i q stride (omega (arith, k.1)) in omega arith))
    ]

-- A byte between two copies.
pub reach_between : (start stride n offset place gap : ℕ) → gap + (start + offset) ≡ place → 0 < stride → (gap % stride ≡ 0 → ⊥) → nat_eq (gap % stride) 0 ≡ hits start stride n offset place
reach_between start stride n offset place gap is some part =
    elim (eqb_tells (gap % stride) 0) [
      | inl y ↦ absurd (part y.1)
      | inr k ↦ k.0 ∙ sym (hits_none start stride n offset place (λ i b e. let f : i * stride + 0 ≡ gap = omega arith in part (subst (λ x. x % stride ≡ 0) f (mod-mul-add i stride 0 some))))
    ]
