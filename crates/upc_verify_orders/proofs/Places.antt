-- Places of the members of a list that pass two tests.
use Rattle.std.proofs.Common.{◌≡◌, ℕ, ◌+◌, ◌<◌, ◌≤◌, Bool, true, false, cond, List, [], ◌∷◌, refl, ap, ◌∙◌, inl, inr, ◌⊎◌, arith}
use Rattle.std.proofs.lemmas.Bool.{cases_Bool}
use Rattle.upc_values.specs.Lists.{Each, Has, Precedes, Pairwise}
use Rattle.upc_verify_orders.specs.layer.Reach.{one_more, behind_last, first_place}

pub more-head : (b : Bool) (n : ℕ) → b ≡ true → 0 < one_more b n
more-head true ℕ.zero e = omega arith
more-head false ℕ.zero e = cc
more-head b (ℕ.suc n) e = omega arith

pub more-tail : (b : Bool) (n : ℕ) → 0 < n → one_more b n ≡ n + 1
more-tail b ℕ.zero h = absurd (omega arith)
more-tail b (ℕ.suc n) h = omega arith

pub more-most : (b : Bool) (n : ℕ) → one_more b n ≤ n + 1
more-most true ℕ.zero = omega arith
more-most false ℕ.zero = omega arith
more-most b (ℕ.suc n) = omega arith

pub cond-most : (b : Bool) (n : ℕ) → cond b 0 (n + 1) ≤ n + 1
cond-most true n = omega arith
cond-most false n = omega arith

pub cond-zero : (b : Bool) (n : ℕ) → b ≡ true → cond b 0 (n + 1) ≡ 0
cond-zero true n e = refl
cond-zero false n e = cc

pub cond-next : (b : Bool) (n : ℕ) → b ≡ false → cond b 0 (n + 1) ≡ n + 1
cond-next true n e = cc
cond-next false n e = refl

pub more-none : (b : Bool) → b ≡ false → one_more b 0 ≡ 0
more-none true e = cc
more-none false e = refl

module _ {X : Type 0} (p q : X → Bool) where
  behind-some : (xs : List X) (y : X) → Has xs y → q y ≡ true → 0 < behind_last q xs
  behind-some [] y h t = absurd h
  behind-some (x ∷ xs) y (inl e) t = more-head (q x) (behind_last q xs) (ap q e ∙ t)
  behind-some (x ∷ xs) y (inr m) t =
      let h = behind-some xs y m t in
      let s = more-tail (q x) (behind_last q xs) h in
      omega arith

  behind-none : (xs : List X) → Each (λ y. q y ≡ false) xs → behind_last q xs ≡ 0
  behind-none [] h = refl
  behind-none (x ∷ xs) h =
      ap (one_more (q x)) (behind-none xs h.1) ∙ more-none (q x) h.0

  -- two members, the first of which passes the one test and the second the other
  pub before-places : (xs : List X) (a b : X) → Precedes xs a b → p a ≡ true → q b ≡ true → first_place p xs < behind_last q xs
  before-places [] a b h s t = absurd h
  before-places (x ∷ xs) a b (inl h) s t =
      let z = cond-zero (p x) (first_place p xs) (ap p h.0 ∙ s) in
      let m = behind-some xs b h.1 t in
      let n = more-tail (q x) (behind_last q xs) m in
      omega arith
  before-places (x ∷ xs) a b (inr h) s t =
      let k = before-places xs a b h s t in
      let u = cond-most (p x) (first_place p xs) in
      let n = more-tail (q x) (behind_last q xs) (omega arith) in
      omega arith

  -- one member that passes both
  pub at-place : (xs : List X) (a : X) → Has xs a → p a ≡ true → q a ≡ true → first_place p xs < behind_last q xs
  at-place [] a h s t = absurd h
  at-place (x ∷ xs) a (inl e) s t =
      let z = cond-zero (p x) (first_place p xs) (ap p e ∙ s) in
      let m = more-head (q x) (behind_last q xs) (ap q e ∙ t) in
      omega arith
  at-place (x ∷ xs) a (inr h) s t =
      let k = at-place xs a h s t in
      let u = cond-most (p x) (first_place p xs) in
      let n = more-tail (q x) (behind_last q xs) (omega arith) in
      omega arith

  -- where nothing that passes the second test stands behind what passes the first
  pub near-places : (xs : List X) → Pairwise (λ x y. p x ≡ true → q y ≡ false) xs → behind_last q xs ≤ first_place p xs + 1
  near-places [] h = omega arith
  near-places (x ∷ xs) h =
      elim (cases_Bool (p x)) [
        | inl t ↦
            let none : behind_last q xs ≡ 0 = behind-none xs (each-of xs h.0 t) in
            let m = more-most (q x) (behind_last q xs) in
            omega arith
        | inr f ↦
            let k = near-places xs h.1 in
            let n = cond-next (p x) (first_place p xs) f in
            let m = more-most (q x) (behind_last q xs) in
            omega arith
      ]
    where
      each-of : (ys : List X) → Each (λ y. p x ≡ true → q y ≡ false) ys → p x ≡ true → Each (λ y. q y ≡ false) ys
      each-of [] h t = tt
      each-of (y ∷ ys) h t = (h.0 t, each-of ys h.1 t)

  -- a member that passes the second test
  last-of : (xs : List X) → 0 < behind_last q xs → (y : X) × Has xs y × (q y ≡ true)
  last-of [] h = absurd (omega arith)
  last-of (x ∷ xs) h = go (behind_last q xs) refl (λ k. last-of xs k)
    where
      go : (n : ℕ) → behind_last q xs ≡ n → (0 < behind_last q xs → (y : X) × Has xs y × (q y ≡ true)) → (y : X) × Has (x ∷ xs) y × (q y ≡ true)
      go (ℕ.suc n) e rec =
          let k = rec (omega arith) in
          (k.0, inr k.1, k.2)
      go ℕ.zero e rec =
          elim (cases_Bool (q x)) [
            | inl t ↦ (x, inl refl, t)
            | inr f ↦
                let z : behind_last q (x ∷ xs) ≡ 0 = ap (one_more (q x)) e ∙ more-none (q x) f in
                absurd (omega arith)
          ]

  -- a member that passes the first test, and one at it or behind it that passes the second
  pub record Links (xs : List X) : Type 0 where
    pub first : X
    pub second : X
    pub passes_first : p first ≡ true
    pub passes_second : q second ≡ true
    pub has_first : Has xs first
    pub has_second : Has xs second
    pub linked : (first ≡ second) ⊎ Precedes xs first second

  pub links : (xs : List X) → first_place p xs < behind_last q xs → Links xs
  links [] h = absurd (omega arith)
  links (x ∷ xs) h =
      elim (cases_Bool (p x)) [
        | inl t ↦ here t (behind_last q xs) refl
        | inr f ↦ there f (behind_last q xs) refl (λ k. links xs k)
      ]
    where
      here : p x ≡ true → (n : ℕ) → behind_last q xs ≡ n → Links (x ∷ xs)
      here t (ℕ.suc n) e =
          let k = last-of xs (omega arith) in
          record {
            first = x;
            second = k.0;
            passes_first = t;
            passes_second = k.2;
            has_first = inl refl;
            has_second = inr k.1;
            linked = inr (inl (refl, k.1));
          }
      here t ℕ.zero e =
          elim (cases_Bool (q x)) [
            | inl u ↦
                record {
                  first = x;
                  second = x;
                  passes_first = t;
                  passes_second = u;
                  has_first = inl refl;
                  has_second = inl refl;
                  linked = inl refl;
                }
            | inr f ↦
                let z : behind_last q (x ∷ xs) ≡ 0 = ap (one_more (q x)) e ∙ more-none (q x) f in
                absurd (omega arith)
          ]

      there : p x ≡ false → (n : ℕ) → behind_last q xs ≡ n → (first_place p xs < behind_last q xs → Links xs) → Links (x ∷ xs)
      there f n e rec =
          let z = cond-next (p x) (first_place p xs) f in
          let m = more-most (q x) (behind_last q xs) in
          let k = rec (omega arith) in
          record {
            first = k.first;
            second = k.second;
            passes_first = k.passes_first;
            passes_second = k.passes_second;
            has_first = inr k.has_first;
            has_second = inr k.has_second;
            linked = elim k.linked [ inl e ↦ inl e | inr w ↦ inr (inr w) ];
          }
