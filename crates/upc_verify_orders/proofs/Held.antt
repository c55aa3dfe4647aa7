-- What the places hold is what the last writes have left.
use Rattle.std.proofs.Common.{◌≡◌, ◌≢◌, ◌↔◌, ℕ, ◌<◌, ◌&&◌, true, false, cond, List, [], ◌∷◌, ◌++◌, length, get_or, set, map, Some, None, sym, ap, ◌∙◌, subst, inl, inr}
use Rattle.std.proofs.lemmas.Bool.{cases_Bool, cond-true, cond-false, and_from, and_right}
use Rattle.std.proofs.lemmas.List.{get_or-set_same, get_or-set_other, length-set}
use Rattle.block_layout.specs.declared.place.Loc.{Loc}
use Rattle.upc_values.specs.declared.scalar.Scalar.{Scalar}
use Rattle.upc_values.specs.Scalars.{value_or, zero}
use Rattle.upc_values.specs.Lists.{Each}
use Rattle.upc_values.specs.Drain.{or_else}
use Rattle.upc_values.specs.Operations.{Operation, Place}
use Rattle.upc_values.specs.Consistent.{same_place, last_write, initial_at, ReadsLastFrom}
use Rattle.upc_values.proofs.Values.{last_write-append}
use Rattle.upc_verify_orders.specs.code.Values.{held_after, ReadsHeld, access_by}

-- places that are in use have numbers within, and one number is of one place
pub record Numbers (used : Place → Type 0) (number : Place → ℕ) (places : ℕ) : Type 0 where
  pub within : (p : Place) → used p → number p < places
  pub same : (p q : Place) → used p → used q → same_place q p ≡ true → number q ≡ number p
  pub other : (p q : Place) → used p → used q → same_place q p ≡ false → number q ≢ number p

module _ (initial : Loc → Scalar) (used : Place → Type 0) (number : Place → ℕ) where
  abbrev pub Holds : List Scalar → List Operation → Type 0
  Holds held before = (p : Place) → used p → get_or held (number p) zero ≡ value_or (last_write p before) (initial_at initial p)

  after-length : (held : List Scalar) (o : Operation) → length (held_after held (access_by number o)) ≡ length held
  after-length held o =
      elim (cases_Bool o.write) [
        | inl t ↦ ap length (cond-true o.write (set held (number o.place) o.value) held t) ∙ length-set held (number o.place) o.value
        | inr f ↦ ap length (cond-false o.write (set held (number o.place) o.value) held f)
      ]

  one-more : (p : Place) (before : List Operation) (o : Operation) → last_write p (before ++ o ∷ []) ≡ or_else (cond (o.write && same_place o.place p) (Some o.value) None) (last_write p before)
  one-more p before o = last_write-append p before (o ∷ [])

  pub holds-next : (held : List Scalar) (before : List Operation) (o : Operation) → Numbers used number (length held) → used o.place → Holds held before → Holds (held_after held (access_by number o)) (before ++ o ∷ [])
  holds-next held before o n u h p w =
      let new = set held (number o.place) o.value in
      let test = o.write && same_place o.place p in
      elim (cases_Bool o.write) [
        | inr f ↦
            let none : test ≡ false = ap (λ b. b && same_place o.place p) f in
            ap (λ l. get_or l (number p) zero) (cond-false o.write new held f) ∙ h p w
            ∙ sym (ap (λ z. value_or z (initial_at initial p)) (one-more p before o ∙ ap (λ z. or_else z (last_write p before)) (cond-false test (Some o.value) None none)))
        | inl t ↦
            ap (λ l. get_or l (number p) zero) (cond-true o.write new held t)
            ∙ elim (cases_Bool (same_place o.place p)) [
              | inl s ↦
                  let all : test ≡ true = and_from o.write (same_place o.place p) t s in
                  ap (λ k. get_or new k zero) (sym (n.same p o.place w u s)) ∙ get_or-set_same held (number o.place) o.value zero (n.within o.place u)
                  ∙ sym (ap (λ z. value_or z (initial_at initial p)) (one-more p before o ∙ ap (λ z. or_else z (last_write p before)) (cond-true test (Some o.value) None all)))
              | inr s ↦
                  let none : test ≡ false = and_right o.write (same_place o.place p) s in
                  get_or-set_other held (number o.place) (number p) o.value zero (λ e. n.other p o.place w u s (sym e)) ∙ h p w
                  ∙ sym (ap (λ z. value_or z (initial_at initial p)) (one-more p before o ∙ ap (λ z. or_else z (last_write p before)) (cond-false test (Some o.value) None none)))
            ]
      ]

  pub held-reads : (held : List Scalar) (before os : List Operation) → Numbers used number (length held) → Each (λ o. used o.place) os → Holds held before → (ReadsHeld held (map (access_by number) os) ↔ ReadsLastFrom initial before os)
  held-reads held before [] n u h = (λ x. x, λ x. x)
  held-reads held before (o ∷ os) n u h =
      let rest =
      held-reads (held_after held (access_by number o)) (before ++ o ∷ []) os (subst (Numbers used number) (sym (after-length held o)) n) u.1
      (holds-next held before o n u.0 h) in (
        λ x. ((λ w. x.0 w ∙ h o.place u.0), rest.0 x.1),
        λ x. ((λ w. x.0 w ∙ sym (h o.place u.0)), rest.1 x.1),
      )
