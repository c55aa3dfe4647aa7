-- Lists: membership, order, pairs.
use Rattle.std.proofs.Common.{◌≡◌, ◌≢◌, ℕ, Bool, true, false, List, [], ◌∷◌, ◌++◌, filter, flat_map, ◌⊎◌, refl, sym, ap, ◌∙◌, subst, inl, inr, ◌+◌, ◌<◌, length, get_or, drop}
use Rattle.std.proofs.lemmas.Bool.{cond_both, cond-true, cond-false, cases_Bool}
use Rattle.std.proofs.lemmas.List.Elements.{filter-append}
use Rattle.upc_values.specs.Lists.{Each, Has, Precedes, Pairwise}
use Rattle.std.proofs.lemmas.List.{drop_more}

-- What is left of a list, from its member on.
pub left_from : {X : Type 0} (xs : List X) (i : ℕ) (x : X) → i < length xs → x ≡ get_or xs i x → drop i xs ≡ x ∷ drop (i + 1) xs
left_from xs i x h e = drop_more xs i x h ∙ ap (λ y. y ∷ drop (i + 1) xs) (sym e)

module _ {X : Type 0} where
  pub has-left : (xs ys : List X) (x : X) → Has xs x → Has (xs ++ ys) x
  has-left [] ys x h = absurd h
  has-left (y ∷ xs) ys x (inl e) = inl e
  has-left (y ∷ xs) ys x (inr h) = inr (has-left xs ys x h)

  pub has-right : (xs ys : List X) (x : X) → Has ys x → Has (xs ++ ys) x
  has-right [] ys x h = h
  has-right (y ∷ xs) ys x h = inr (has-right xs ys x h)

  pub has-cases : (xs ys : List X) (x : X) → Has (xs ++ ys) x → Has xs x ⊎ Has ys x
  has-cases [] ys x h = inr h
  has-cases (y ∷ xs) ys x (inl e) = inl (inl e)
  has-cases (y ∷ xs) ys x (inr h) = elim (has-cases xs ys x h) [ inl k ↦ inl (inr k) | inr k ↦ inr k ]

  pub has-filter : (test : X → Bool) (xs : List X) (x : X) → test x ≡ true → Has xs x → Has (filter test xs) x
  has-filter test [] x t h = absurd h
  has-filter test (y ∷ ys) x t (inl e) =
      subst (λ l. Has l x) (sym (cond-true (test y) (y ∷ filter test ys) (filter test ys) (ap test e ∙ t))) (inl e)
  has-filter test (y ∷ ys) x t (inr h) =
      let k = has-filter test ys x t h in
      cond_both (test y) (y ∷ filter test ys) (filter test ys) (λ l. Has l x) (λ e. inr k) (λ e. k)

  -- what a filter keeps was there, and passes
  pub filter-has : (test : X → Bool) (xs : List X) (x : X) → Has (filter test xs) x → Has xs x × (test x ≡ true)
  filter-has test [] x = λ h. absurd h
  filter-has test (y ∷ ys) x =
      cond_both (test y) (y ∷ filter test ys) (filter test ys) (λ l. Has l x → Has (y ∷ ys) x × (test x ≡ true))
      (λ e h. elim h [ inl q ↦ (inl q, sym (ap test q) ∙ e) | inr m ↦ let k = filter-has test ys x m in (inr k.0, k.1) ])
      (λ e h. let k = filter-has test ys x h in (inr k.0, k.1))

  pub each-has : (P : X → Type 0) (xs : List X) → Each P xs → (x : X) → Has xs x → P x
  each-has P [] h x m = absurd m
  each-has P (y ∷ ys) h x (inl e) = subst P e h.0
  each-has P (y ∷ ys) h x (inr m) = each-has P ys h.1 x m

  pub each-from : (P : X → Type 0) (xs : List X) → ((x : X) → Has xs x → P x) → Each P xs
  each-from P [] h = tt
  each-from P (y ∷ ys) h = (h y (inl refl), each-from P ys (λ x m. h x (inr m)))

  pub each-append : (P : X → Type 0) (xs ys : List X) → Each P xs → Each P ys → Each P (xs ++ ys)
  each-append P [] ys h k = k
  each-append P (x ∷ xs) ys h k = (h.0, each-append P xs ys h.1 k)

  pub each-front : (P : X → Type 0) (xs ys : List X) → Each P (xs ++ ys) → Each P xs
  each-front P [] ys h = tt
  each-front P (x ∷ xs) ys h = (h.0, each-front P xs ys h.1)

  pub each-back : (P : X → Type 0) (xs ys : List X) → Each P (xs ++ ys) → Each P ys
  each-back P [] ys h = h
  each-back P (x ∷ xs) ys h = each-back P xs ys h.1

  pub each-weaker : (P Q : X → Type 0) → ((x : X) → P x → Q x) → (xs : List X) → Each P xs → Each Q xs
  each-weaker P Q f [] h = tt
  each-weaker P Q f (x ∷ xs) h = (f x h.0, each-weaker P Q f xs h.1)

  -- a list put into another keeps the pairs
  pub pairs-insert : (R : X → X → Type 0) (front new back : List X) → Pairwise R (front ++ back) → Pairwise R new → Each (λ a. Each (R a) new) front → Each (λ a. Each (R a) back) new → Pairwise R (front ++ (new ++ back))
  pairs-insert R [] [] back h n f b = h
  pairs-insert R [] (x ∷ new) back h n f b =
      (each-append (R x) new back n.0 b.0, pairs-insert R [] new back h n.1 tt b.1)
  pairs-insert R (x ∷ front) new back h n f b = (
    each-append (R x) front (new ++ back) (each-front (R x) front back h.0)
        (each-append (R x) new back f.0 (each-back (R x) front back h.0)),
    pairs-insert R front new back h.1 n f.1 b,
  )

  pub pairs-weaker : (R S : X → X → Type 0) → ((a b : X) → R a b → S a b) → (xs : List X) → Pairwise R xs → Pairwise S xs
  pairs-weaker R S f [] h = tt
  pairs-weaker R S f (x ∷ xs) h = (each-weaker (R x) (S x) (f x) xs h.0, pairs-weaker R S f xs h.1)

  -- `Pairwise` and `Precedes`
  pub pairs-at : (R : X → X → Type 0) (xs : List X) → Pairwise R xs → (a b : X) → Precedes xs a b → R a b
  pairs-at R [] h a b p = absurd p
  pairs-at R (x ∷ xs) h a b (inl q) = subst (λ z. R z b) q.0 (each-has (R x) xs h.0 b q.1)
  pairs-at R (x ∷ xs) h a b (inr p) = pairs-at R xs h.1 a b p

  pub pairs-from : (R : X → X → Type 0) (xs : List X) → ((a b : X) → Precedes xs a b → R a b) → Pairwise R xs
  pairs-from R [] h = tt
  pairs-from R (x ∷ xs) h =
      (each-from (R x) xs (λ b m. h x b (inl (refl, m))), pairs-from R xs (λ a b p. h a b (inr p)))

  pub precedes-has : (xs : List X) (a b : X) → Precedes xs a b → Has xs a × Has xs b
  precedes-has [] a b p = absurd p
  precedes-has (x ∷ xs) a b (inl q) = (inl q.0, inr q.1)
  precedes-has (x ∷ xs) a b (inr p) = let k = precedes-has xs a b p in (inr k.0, inr k.1)

  pub precedes-total : (xs : List X) (a b : X) → (a ≢ b) → Has xs a → Has xs b → Precedes xs a b ⊎ Precedes xs b a
  precedes-total [] a b n h k = absurd h
  precedes-total (x ∷ xs) a b n (inl e) (inl q) = absurd (n (sym e ∙ q))
  precedes-total (x ∷ xs) a b n (inl e) (inr k) = inl (inl (e, k))
  precedes-total (x ∷ xs) a b n (inr h) (inl q) = inr (inl (q, h))
  precedes-total (x ∷ xs) a b n (inr h) (inr k) =
      elim (precedes-total xs a b n h k) [ inl p ↦ inl (inr p) | inr p ↦ inr (inr p) ]

  abbrev pub Distinct : List X → Type 0
  Distinct xs = Pairwise (λ a b. a ≢ b) xs

  pub precedes-strict : (xs : List X) → Distinct xs → (a : X) → Precedes xs a a → ⊥
  precedes-strict xs d a p = pairs-at (λ x y. x ≢ y) xs d a a p refl

  pub precedes-trans : (xs : List X) → Distinct xs → (a b c : X) → Precedes xs a b → Precedes xs b c → Precedes xs a c
  precedes-trans [] d a b c p q = absurd p
  precedes-trans (x ∷ xs) d a b c (inl p) (inl q) = absurd (each-has (λ z. x ≢ z) xs d.0 b p.1 q.0)
  precedes-trans (x ∷ xs) d a b c (inl p) (inr q) = inl (p.0, (precedes-has xs b c q).1)
  precedes-trans (x ∷ xs) d a b c (inr p) (inl q) =
      absurd (each-has (λ z. x ≢ z) xs d.0 b (precedes-has xs a b p).1 q.0)
  precedes-trans (x ∷ xs) d a b c (inr p) (inr q) = inr (precedes-trans xs d.1 a b c p q)

  pub precedes-filter : (test : X → Bool) (xs : List X) (a b : X) → test a ≡ true → test b ≡ true → Precedes xs a b → Precedes (filter test xs) a b
  precedes-filter test [] a b s t p = absurd p
  precedes-filter test (x ∷ xs) a b s t (inl q) =
      subst (λ l. Precedes l a b) (sym (cond-true (test x) (x ∷ filter test xs) (filter test xs) (ap test q.0 ∙ s)))
      (inl (q.0, has-filter test xs b t q.1))
  precedes-filter test (x ∷ xs) a b s t (inr p) =
      let k = precedes-filter test xs a b s t p in
      cond_both (test x) (x ∷ filter test xs) (filter test xs) (λ l. Precedes l a b) (λ e. inr k) (λ e. k)

  pub filter-precedes : (test : X → Bool) (xs : List X) (a b : X) → Precedes (filter test xs) a b → Precedes xs a b
  filter-precedes test [] a b = λ p. absurd p
  filter-precedes test (x ∷ xs) a b =
      cond_both (test x) (x ∷ filter test xs) (filter test xs) (λ l. Precedes l a b → Precedes (x ∷ xs) a b)
      (λ e p. elim p [ inl q ↦ inl (q.0, (filter-has test xs b q.1).0) | inr k ↦ inr (filter-precedes test xs a b k) ])
      (λ e p. inr (filter-precedes test xs a b p))

  -- distinct in each class of a test, and so distinct
  pub distinct-classes : (class : X → ℕ → Bool) (of : X → ℕ) → ((x : X) → class x (of x) ≡ true) → (xs : List X) → ((a : X) → Has xs a → Distinct (filter (λ x. class x (of a)) xs)) → Distinct xs
  distinct-classes class of own xs d =
      pairs-from (λ a b. a ≢ b) xs
      (λ a b p e.
      pairs-at (λ x y. x ≢ y) (filter (λ x. class x (of a)) xs) (d a (precedes-has xs a b p).0) a b
      (precedes-filter (λ x. class x (of a)) xs a b (own a) (subst (λ z. class z (of a) ≡ true) e (own a)) p) e)

filter-whole : {Y : Type 0} (p : Y → Bool) (ys : List Y) → Each (λ y. p y ≡ true) ys → filter p ys ≡ ys
filter-whole p [] h = refl
filter-whole p (y ∷ ys) h =
    cond-true (p y) (y ∷ filter p ys) (filter p ys) h.0 ∙ ap (λ l. y ∷ l) (filter-whole p ys h.1)

filter-empty : {Y : Type 0} (p : Y → Bool) (ys : List Y) → Each (λ y. p y ≡ false) ys → filter p ys ≡ []
filter-empty p [] h = refl
filter-empty p (y ∷ ys) h = cond-false (p y) (y ∷ filter p ys) (filter p ys) h.0 ∙ filter-empty p ys h.1

-- a filter of lists put end to end, each of which passes whole or not at all
pub filter-flat : {X Y : Type 0} (f : X → List Y) (p : Y → Bool) (q : X → Bool) (xs : List X) → Each (λ x. Each (λ y. p y ≡ q x) (f x)) xs → filter p (flat_map f xs) ≡ flat_map f (filter q xs)
filter-flat f p q [] h = refl
filter-flat {X} {Y} f p q (x ∷ xs) h =
    let ind = filter-flat f p q xs h.1 in
    let start = filter-append p (f x) (flat_map f xs) in
    elim (cases_Bool (q x)) [
      | inl t ↦
          start
          ∙ ap (λ l. l ++ filter p (flat_map f xs)) (filter-whole p (f x) (each-weaker (λ y. p y ≡ q x) (λ y. p y ≡ true) (λ y e. e ∙ t) (f x) h.0))
          ∙ ap (λ l. f x ++ l) ind ∙ sym (ap (flat_map f) (cond-true (q x) (x ∷ filter q xs) (filter q xs) t))
      | inr t ↦
          start
          ∙ ap (λ l. l ++ filter p (flat_map f xs)) (filter-empty p (f x) (each-weaker (λ y. p y ≡ q x) (λ y. p y ≡ false) (λ y e. e ∙ t) (f x) h.0))
          ∙ ind ∙ sym (ap (flat_map f) (cond-false (q x) (x ∷ filter q xs) (filter q xs) t))
    ]

-- two ways to replace agree on what a filter keeps
pub flat-agree : {X Y : Type 0} (f g : X → List Y) (q : X → Bool) → ((x : X) → q x ≡ true → f x ≡ g x) → (xs : List X) → flat_map f (filter q xs) ≡ flat_map g (filter q xs)
flat-agree f g q h [] = refl
flat-agree f g q h (x ∷ xs) =
    cond_both (q x) (x ∷ filter q xs) (filter q xs) (λ l. flat_map f l ≡ flat_map g l)
    (λ t. ap (λ l. l ++ flat_map f (filter q xs)) (h x t) ∙ ap (λ l. g x ++ l) (flat-agree f g q h xs))
    (λ t. flat-agree f g q h xs)
