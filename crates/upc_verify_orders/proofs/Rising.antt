-- A list that keeps program order makes a strict order in which nothing stands before itself.
use Rattle.std.proofs.Common.{◌≡◌, ◌≢◌, ◌+◌, ◌<◌, ◌≤◌, Bool, true, false, ◌||◌, List, [], ◌∷◌, refl, sym, ap, ◌∙◌, subst, inl, inr, arith}
use Rattle.std.proofs.lemmas.Bool.{cases_Bool, cases_order, false≢true, or_left}
use Rattle.upc_values.specs.Lists.{Each, Has, Precedes, Pairwise}
use Rattle.upc_values.specs.Operations.{Operation}
use Rattle.upc_values.specs.Orders.{rank, name_of}
use Rattle.upc_values.specs.Consistent.{IsOrderOf}
use Rattle.upc_values.proofs.Membership.{each-has, pairs-at, pairs-from, pairs-weaker, precedes-has, precedes-trans, Distinct}
use Rattle.upc_verify_orders.specs.Strict.{StrictBy, As_listed, As_written, Through}
use Rattle.upc_verify_orders.specs.layer.Reach.{one_more, behind_last, first_place, is_until, is_from, reached, reaches, InThread}
use Rattle.upc_verify_orders.proofs.Places.{more-head, more-tail, more-most, cond-most, cond-zero, cond-next, more-none}
use Rattle.upc_verify_orders.proofs.Reaching.{StrictOf, same-name, from-of, until-of, from-is, until-is, near, goes-on}

module _ {X : Type 0} (p q : X → Bool) where
  -- a member that passes the first test and not the second, as none before it does
  first-before : (xs : List X) (a : X) → Has xs a → p a ≡ true → q a ≡ false → Pairwise (λ x y. y ≡ a → q x ≡ false) xs → first_place p xs < first_place q xs
  first-before [] a m s f h = absurd m
  first-before (x ∷ xs) a (inl e) s f h =
      let z = cond-zero (p x) (first_place p xs) (ap p e ∙ s) in
      let n = cond-next (q x) (first_place q xs) (ap q e ∙ f) in
      omega arith
  first-before (x ∷ xs) a (inr m) s f h =
      let k = first-before xs a m s f h.1 in
      let u = cond-most (p x) (first_place p xs) in
      let n = cond-next (q x) (first_place q xs) (each-has (λ y. y ≡ a → q x ≡ false) xs h.0 a m refl) in
      omega arith

  none-behind : (xs : List X) → Each (λ y. p y ≡ false) xs → behind_last p xs ≡ 0
  none-behind [] h = refl
  none-behind (x ∷ xs) h = ap (one_more (p x)) (none-behind xs h.1) ∙ more-none (p x) h.0

  each-of : (x b : X) (ys : List X) → x ≡ b → Each (λ y. x ≡ b → p y ≡ false) ys → Each (λ y. p y ≡ false) ys
  each-of x b [] e h = tt
  each-of x b (y ∷ ys) e h = (h.0 e, each-of x b ys e h.1)

  -- a member that passes the second test and not the first, as none behind it does
  last-before : (xs : List X) (b : X) → Has xs b → q b ≡ true → p b ≡ false → Pairwise (λ x y. x ≡ b → p y ≡ false) xs → behind_last p xs < behind_last q xs
  last-before [] b m s f h = absurd m
  last-before (x ∷ xs) b (inl e) s f h =
      let z : behind_last p (x ∷ xs) ≡ 0 = ap (one_more (p x)) (none-behind xs (each-of x b xs e h.0)) ∙ more-none (p x) (ap p e ∙ f) in
      let n = more-head (q x) (behind_last q xs) (ap q e ∙ s) in
      omega arith
  last-before (x ∷ xs) b (inr m) s f h =
      let k = last-before xs b m s f h.1 in
      let n = more-tail (q x) (behind_last q xs) (omega arith) in
      let u = more-most (p x) (behind_last p xs) in
      omega arith

-- what stands before an operation in its thread is not at or behind it, and the other way round
not-from : (b x : Operation) → (x.thread ≡ b.thread → rank x < rank b) → is_from b x ≡ false
not-from b x k =
    elim (cases_Bool (is_from b x)) [
      | inr f ↦ f
      | inl t ↦
          let y = from-is b x t in
          let u : rank b ≤ rank x = y.1 in
          let v : rank x < rank b = k y.0 in
          absurd (omega arith)
    ]

not-until : (a y : Operation) → (y.thread ≡ a.thread → rank a < rank y) → is_until a y ≡ false
not-until a y k =
    elim (cases_Bool (is_until a y)) [
      | inr f ↦ f
      | inl t ↦
          let z = until-is a y t in
          let u : rank y ≤ rank a = z.1 in
          let v : rank a < rank y = k z.0 in
          absurd (omega arith)
    ]

or-second : (x y : Bool) → x ≡ false → (x || y) ≡ true → y ≡ true
or-second true y e h = absurd (false≢true (sym e))
or-second false y e h = h

module _ (set : Operation → Type 0) (strict : List Operation) (whole : IsOrderOf (StrictOf set) strict) (kept : Pairwise InThread strict) where
  distinct : Distinct strict
  distinct = pairs-weaker (λ a b. name_of a ≢ name_of b) (λ a b. a ≢ b) (λ a b n e. n (ap name_of e)) strict whole.once

  listed : (a b : Operation) → Precedes strict a b → reaches strict a < reaches strict b
  listed a b p =
      first-before (is_from a) (is_from b) strict a (precedes-has strict a b p).0 (from-of a a refl (omega arith))
      (not-from b a (pairs-at InThread strict kept a b p))
      (pairs-from (λ x y. y ≡ a → is_from b x ≡ false) strict
      (λ x y w e. not-from b x (pairs-at InThread strict kept x b (precedes-trans strict distinct x a b (subst (Precedes strict x) e w) p))))

  written-first : (a b : Operation) → Has strict a → a.thread ≡ b.thread → rank a < rank b → reaches strict a < reaches strict b
  written-first a b m e lt =
      first-before (is_from a) (is_from b) strict a m (from-of a a refl (omega arith)) (not-from b a (λ q. lt))
      (pairs-from (λ x y. y ≡ a → is_from b x ≡ false) strict
      (λ x y w q.
      not-from b x
      (λ s.
      let k : rank x < rank a = pairs-at InThread strict kept x a (subst (Precedes strict x) q w) (s ∙ sym e) in
      omega arith)))

  written-second : (a b : Operation) → Has strict b → a.thread ≡ b.thread → rank a < rank b → reached strict a < reached strict b
  written-second a b m e lt =
      last-before (is_until a) (is_until b) strict b m (until-of b b refl (omega arith)) (not-until a b (λ q. lt))
      (pairs-from (λ x y. x ≡ b → is_until a y ≡ false) strict
      (λ x y w q.
      not-until a y
      (λ s.
      let k : rank b < rank y = pairs-at InThread strict kept b y (subst (λ z. Precedes strict z y) q w) (sym e ∙ sym s) in
      omega arith)))

  rises : (a b : Operation) → StrictBy set strict a b → reached strict a + reaches strict a < reached strict b + reaches strict b
  rises _ _ (As_listed a b p) =
      let g = goes-on set strict whole kept a b (As_listed a b p) in
      let x = near set strict whole kept a in
      let y = near set strict whole kept b in
      let k = listed a b p in
      omega arith
  rises _ _ (As_written a b u v w) =
      let g = goes-on set strict whole kept a b (As_written a b u v w) in
      let x = near set strict whole kept a in
      let y = near set strict whole kept b in
      elim (cases_Bool a.strict) [
        | inl t ↦
            let k = written-first a b (whole.has a (u, t)) w.0 w.2 in omega arith
        | inr f ↦
            let k = written-second a b (whole.has b (v, or-second a.strict b.strict f w.1)) w.0 w.2 in omega arith
      ]
  rises _ _ (Through a b c p q) =
      let x = rises a b p in
      let y = rises b c q in
      omega arith

  pub not-itself : (a : Operation) → StrictBy set strict a a → ⊥
  not-itself a s = let k = rises a a s in absurd (omega arith)

-- a list against program order makes no strict order
pub kept-of : (set : Operation → Type 0) (strict : List Operation) → IsOrderOf (StrictOf set) strict → ((a : Operation) → StrictBy set strict a a → ⊥) → Pairwise InThread strict
kept-of set strict whole irreflexive =
    pairs-from InThread strict
    (λ a b p e.
    let m = precedes-has strict a b p in
    let x = whole.only a m.0 in
    let y = whole.only b m.1 in
    elim (cases_order (rank a) (rank b)) [
      | inl q ↦ absurd (pairs-at (λ c d. name_of c ≢ name_of d) strict whole.once a b p (same-name a b e q))
      | inr k ↦ elim k [
        | inl lt ↦ lt
        | inr gt ↦
            absurd (irreflexive a
            (Through a b a (As_listed a b p) (As_written b a y.0 x.0 (sym e, or_left b.strict a.strict y.1, gt))))
      ]
    ])
