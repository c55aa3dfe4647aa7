-- Stamps in their order.
use Rattle.std.proofs.Common.{◌≡◌, ℕ, ◌<◌, ◌≤◌, ◌==◌, nat_lt, true, false, ◌&&◌, refl, sym, ap, ◌∙◌, subst, inl, inr, ◌⊎◌, arith, eq-eqb, eqb-true, ltb-true, ltb-false, lt-ltb, cond}
use Rattle.std.proofs.lemmas.Bool.{cases_Bool, cases_order, false≢true, or_cases, or_left, or_right, and_parts, and_from, false_from_ne_true}
use Rattle.replica_space.specs.declared.message.Stamp.{Stamp}
use Rattle.replica_space.specs.Spaces.{is_later, greater, greatest}

abbrev Later : Stamp → Stamp → Type 0
Later a b = (b.clock < a.clock) ⊎ ((a.clock ≡ b.clock) × (b.thread < a.thread))

later-is : (a b : Stamp) → is_later a b ≡ true → Later a b
later-is a b h =
    elim (or_cases (nat_lt b.clock a.clock) ((a.clock == b.clock) && nat_lt b.thread a.thread) h) [
      | inl k ↦ inl (ltb-true b.clock a.clock k)
      | inr k ↦
          let p = and_parts (a.clock == b.clock) (nat_lt b.thread a.thread) k in
          inr (eqb-true a.clock b.clock p.0, ltb-true b.thread a.thread p.1)
    ]

later-of : (a b : Stamp) → Later a b → is_later a b ≡ true
later-of a b (inl k) =
    or_left (nat_lt b.clock a.clock) ((a.clock == b.clock) && nat_lt b.thread a.thread) (lt-ltb b.clock a.clock k)
later-of a b (inr k) =
    or_right (nat_lt b.clock a.clock) ((a.clock == b.clock) && nat_lt b.thread a.thread)
    (and_from (a.clock == b.clock) (nat_lt b.thread a.thread) (eq-eqb a.clock b.clock k.0) (lt-ltb b.thread a.thread k.1))

upto-of : (a b : Stamp) → (Later a b → ⊥) → is_later a b ≡ false
upto-of a b h = false_from_ne_true (is_later a b) (λ t. h (later-is a b t))

upto-is : (a b : Stamp) → is_later a b ≡ false → Later a b → ⊥
upto-is a b h k = false≢true (sym h ∙ later-of a b k)

-- what is not later has a smaller clock, or an equal one and no greater thread
at-most : (a b : Stamp) → is_later a b ≡ false → (a.clock < b.clock) ⊎ ((a.clock ≡ b.clock) × (a.thread ≤ b.thread))
at-most a b h =
    elim (cases_order a.clock b.clock) [
      | inl e ↦ elim (cases_order a.thread b.thread) [
        | inl q ↦ inr (e, omega arith)
        | inr k ↦ elim k [
          | inl lt ↦ inr (e, omega arith)
          | inr gt ↦ absurd (upto-is a b h (inr (e, gt)))
        ]
      ]
      | inr k ↦ elim k [
        | inl lt ↦ inl lt
        | inr gt ↦ absurd (upto-is a b h (inl gt))
      ]
    ]

pub upto-trans : (a b c : Stamp) → is_later a b ≡ false → is_later b c ≡ false → is_later a c ≡ false
upto-trans a b c h k = upto-of a c (λ l. go (at-most a b h) (at-most b c k) l)
  where
    go : (a.clock < b.clock) ⊎ ((a.clock ≡ b.clock) × (a.thread ≤ b.thread)) → (b.clock < c.clock) ⊎ ((b.clock ≡ c.clock) × (b.thread ≤ c.thread)) → Later a c → ⊥
    go (inl x) (inl y) (inl z) = omega arith
    go (inl x) (inl y) (inr z) = omega (arith, z.0)
    go (inl x) (inr y) (inl z) = omega (arith, y.0)
    go (inl x) (inr y) (inr z) = omega (arith, y.0, z.0)
    go (inr x) (inl y) (inl z) = omega (arith, x.0)
    go (inr x) (inl y) (inr z) = omega (arith, x.0, z.0)
    go (inr x) (inr y) (inl z) = omega (arith, x.0, y.0)
    go (inr x) (inr y) (inr z) = omega (arith, x.1, y.1, z.1)

pub lower-upto : (a b : Stamp) → a.clock < b.clock → is_later a b ≡ false
lower-upto a b h = upto-of a b (λ l. elim l [ inl k ↦ omega arith | inr k ↦ omega (arith, k.0) ])

pub higher-later : (a b : Stamp) → b.clock < a.clock → is_later a b ≡ true
higher-later a b h = later-of a b (inl h)

pub upto-self : (a : Stamp) → is_later a a ≡ false
upto-self a = upto-of a a (λ l. elim l [ inl k ↦ omega arith | inr k ↦ omega (arith, k.1) ])

pub later-upto : (a b : Stamp) → is_later a b ≡ true → is_later b a ≡ false
later-upto a b h = upto-of b a (λ l. go (later-is a b h) l)
  where
    go : Later a b → Later b a → ⊥
    go (inl x) (inl y) = omega arith
    go (inl x) (inr y) = omega (arith, y.0)
    go (inr x) (inl y) = omega (arith, x.0)
    go (inr x) (inr y) = omega (arith, x.1, y.1)

stamp-parts : (a b : Stamp) → a.clock ≡ b.clock → a.thread ≡ b.thread → a ≡ b
stamp-parts a b x y =
    let P : ℕ → ℕ → Type 0 = λ c t. a ≡ record { clock = c; thread = t } in
    subst (λ t. P b.clock t) y (subst (λ c. P c a.thread) x refl)

-- of two stamps of which neither is later both are one
pub upto-anti : (a b : Stamp) → is_later a b ≡ false → is_later b a ≡ false → a ≡ b
upto-anti a b h k = go (at-most a b h) (at-most b a k)
  where
    go : (a.clock < b.clock) ⊎ ((a.clock ≡ b.clock) × (a.thread ≤ b.thread)) → (b.clock < a.clock) ⊎ ((b.clock ≡ a.clock) × (b.thread ≤ a.thread)) → a ≡ b
    go (inl x) (inl y) = absurd (omega arith)
    go (inl x) (inr y) = absurd (omega (arith, y.0))
    go (inr x) (inl y) = absurd (omega (arith, x.0))
    go (inr x) (inr y) = stamp-parts a b x.0 (omega (arith, x.1, y.1))

-- the greater of two, and the greatest of some
pub greater-left : (a b : ℕ) → a ≤ greater a b
greater-left a b =
    elim (cases_Bool (nat_lt a b)) [
      | inl t ↦ let e : greater a b ≡ b = ap (λ z. cond z b a) t in let l = ltb-true a b t in omega arith
      | inr f ↦ let e : greater a b ≡ a = ap (λ z. cond z b a) f in omega arith
    ]

pub greater-right : (a b : ℕ) → b ≤ greater a b
greater-right a b =
    elim (cases_Bool (nat_lt a b)) [
      | inl t ↦ let e : greater a b ≡ b = ap (λ z. cond z b a) t in omega arith
      | inr f ↦ let e : greater a b ≡ a = ap (λ z. cond z b a) f in let l = ltb-false a b f in omega arith
    ]

pub greatest-most : (n : ℕ) (f : ℕ → ℕ) (t : ℕ) → t < n → f t ≤ greatest n f
greatest-most ℕ.zero f t h = absurd (omega arith)
greatest-most (ℕ.suc n) f t h =
    elim (cases_order t n) [
      | inl e ↦ subst (λ i. f i ≤ greatest (ℕ.suc n) f) (sym e) (greater-right (greatest n f) (f n))
      | inr k ↦ elim k [
        | inl lt ↦ let a = greatest-most n f t lt in let b = greater-left (greatest n f) (f n) in omega arith
        | inr gt ↦ absurd (omega arith)
      ]
    ]
