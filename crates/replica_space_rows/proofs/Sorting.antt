-- Lists whose members stand by an order, and a stable sort.
use Rattle.std.proofs.Common.{◌≡◌, ℕ, ◌<◌, ◌≤◌, zero, suc, Bool, not, true, false, cond, List, [], ◌∷◌, ◌++◌, length, get_or, filter, refl, sym, ap, ◌∙◌, subst, inl, inr, ◌⊎◌, suc-le-suc, zero-le}
use Rattle.std.specs.Cmp.{IsStrictWeakOrder}
use Rattle.std.specs.List.Sorted.{ties, IsSortedBy, IsStableBy}
use Rattle.std.proofs.lemmas.Bool.{cases_Bool, cond-true, cond-false, both_ways, and_parts, and_from, not-true, not_from_false, true_from_ne_false, false_from_ne_true}
use Rattle.std.proofs.lemmas.List.{append_assoc, append-nil}
use Rattle.std.proofs.lemmas.List.Elements.{filter-append}
use Rattle.std.proofs.lemmas.List.Sorted.{sorted_far}
use Rattle.upc_values.specs.Lists.{Has, Each, Pairwise}
use Rattle.upc_values.proofs.Membership.{each-has, each-from, each-weaker, filter-has}
use Rattle.replica_space_rows.specs.code.Places.{put_by, put_all}

each-at : {X : Type 0} (P : X → Type 0) (ys : List X) → ((j : ℕ) (d : X) → j < length ys → P (get_or ys j d)) → Each P ys
each-at P [] h = tt
each-at P (y ∷ ys) h = (h zero y (suc-le-suc zero-le), each-at P ys (λ j d lt. h (suc j) d (suc-le-suc lt)))

filter-kept : {X : Type 0} (p : X → Bool) (y : X) (ys : List X) → p y ≡ true → filter p (y ∷ ys) ≡ y ∷ filter p ys
filter-kept p y ys h = cond-true (p y) (y ∷ filter p ys) (filter p ys) h

filter-dropped : {X : Type 0} (p : X → Bool) (y : X) (ys : List X) → p y ≡ false → filter p (y ∷ ys) ≡ filter p ys
filter-dropped p y ys h = cond-false (p y) (y ∷ filter p ys) (filter p ys) h

filter-none : {X : Type 0} (p : X → Bool) (ys : List X) → Each (λ y. p y ≡ false) ys → filter p ys ≡ []
filter-none p [] h = refl
filter-none p (y ∷ ys) h = filter-dropped p y ys h.0 ∙ filter-none p ys h.1

module _ {X : Type 0} (lt : X → X → Bool) (o : IsStrictWeakOrder lt) where
  -- no member comes before an earlier one
  abbrev pub Rises : List X → Type 0
  Rises xs = Pairwise (λ a b. lt b a ≡ false) xs

  here : (x y : X) (ys : List X) → lt x y ≡ true → put_by lt x (y ∷ ys) ≡ x ∷ y ∷ ys
  here x y ys e = cond-true (lt x y) (x ∷ y ∷ ys) (y ∷ put_by lt x ys) e

  there : (x y : X) (ys : List X) → lt x y ≡ false → put_by lt x (y ∷ ys) ≡ y ∷ put_by lt x ys
  there x y ys e = cond-false (lt x y) (x ∷ y ∷ ys) (y ∷ put_by lt x ys) e

  -- ---- members

  pub has-put : (x : X) (ys : List X) (z : X) → Has (put_by lt x ys) z → (x ≡ z) ⊎ Has ys z
  has-put x [] z h = h
  has-put x (y ∷ ys) z h =
      elim (cases_Bool (lt x y)) [
        | inl e ↦ subst (λ l. Has l z) (here x y ys e) h
        | inr e ↦ elim (subst (λ l. Has l z) (there x y ys e) h) [
          | inl k ↦ inr (inl k)
          | inr k ↦ elim (has-put x ys z k) [ inl w ↦ inl w | inr w ↦ inr (inr w) ]
        ]
      ]

  pub put-itself : (x : X) (ys : List X) → Has (put_by lt x ys) x
  put-itself x [] = inl refl
  put-itself x (y ∷ ys) =
      elim (cases_Bool (lt x y)) [
        | inl e ↦ subst (λ l. Has l x) (sym (here x y ys e)) (inl refl)
        | inr e ↦ subst (λ l. Has l x) (sym (there x y ys e)) (inr (put-itself x ys))
      ]

  pub put-has : (x : X) (ys : List X) (z : X) → Has ys z → Has (put_by lt x ys) z
  put-has x [] z h = absurd h
  put-has x (y ∷ ys) z h =
      elim (cases_Bool (lt x y)) [
        | inl e ↦ subst (λ l. Has l z) (sym (here x y ys e)) (inr h)
        | inr e ↦ subst (λ l. Has l z) (sym (there x y ys e)) (elim h [ inl k ↦ inl k | inr k ↦ inr (put-has x ys z k) ])
      ]

  pub each-put : (P : X → Type 0) (x : X) (ys : List X) → P x → Each P ys → Each P (put_by lt x ys)
  each-put P x ys p h = each-from P (put_by lt x ys) (λ z w. elim (has-put x ys z w) [ inl e ↦ subst P e p | inr k ↦ each-has P ys h z k ])

  -- ---- the order

  pub rises-put : (x : X) (ys : List X) → Rises ys → Rises (put_by lt x ys)
  rises-put x [] h = (tt, tt)
  rises-put x (y ∷ ys) h =
      elim (cases_Bool (lt x y)) [
        | inl e ↦
            let back = o.one_way x y e in
            subst Rises (sym (here x y ys e))
            ((back, each-weaker (λ z. lt z y ≡ false) (λ z. lt z x ≡ false) (λ z k. o.chain z y x k back) ys h.0), h)
        | inr e ↦
            subst Rises (sym (there x y ys e)) (each-put (λ z. lt z y ≡ false) x ys e h.0, rises-put x ys h.1)
      ]

  pub rises-all : (xs ys : List X) → Rises ys → Rises (put_all lt xs ys)
  rises-all [] ys h = h
  rises-all (x ∷ xs) ys h = rises-all xs (put_by lt x ys) (rises-put x ys h)

  -- what comes before none comes last
  pub put-last : (x : X) (ys : List X) → Each (λ y. lt x y ≡ false) ys → put_by lt x ys ≡ ys ++ x ∷ []
  put-last x [] h = refl
  put-last x (y ∷ ys) h = there x y ys h.0 ∙ ap (λ l. y ∷ l) (put-last x ys h.1)

  pub put-more : (xs ys : List X) (x : X) → put_all lt (xs ++ x ∷ []) ys ≡ put_by lt x (put_all lt xs ys)
  put-more [] ys x = refl
  put-more (z ∷ xs) ys x = put-more xs (put_by lt z ys) x

  -- ---- members that tie

  itself : (x : X) → lt x x ≡ false
  itself x = false_from_ne_true (lt x x) (λ t. both_ways (lt x x) (o.one_way x x t) t)

  tie : X → X → Bool
  tie = ties lt

  tie-of : (x y : X) → lt x y ≡ false → lt y x ≡ false → ties lt x y ≡ true
  tie-of x y h k = and_from (not (lt x y)) (not (lt y x)) (not_from_false (lt x y) h) (not_from_false (lt y x) k)

  tie-is : (x y : X) → ties lt x y ≡ true → (lt x y ≡ false) × (lt y x ≡ false)
  tie-is x y h = let p = and_parts (not (lt x y)) (not (lt y x)) h in (not-true (lt x y) p.0, not-true (lt y x) p.1)

  -- what comes after x does not tie with what ties with x
  apart : (z x w : X) → ties lt z x ≡ true → lt x w ≡ true → ties lt z w ≡ false
  apart z x w h e =
      false_from_ne_true (ties lt z w) (λ t. both_ways (lt x w) (o.chain x z w (tie-is z x h).1 (tie-is z w t).0) e)

  after-all : (x y : X) (ys : List X) → lt x y ≡ true → Each (λ b. lt b y ≡ false) ys → Each (λ w. lt x w ≡ true) (y ∷ ys)
  after-all x y ys e h = (
    e,
    each-weaker (λ b. lt b y ≡ false) (λ w. lt x w ≡ true)
        (λ w k. true_from_ne_false (lt x w) (λ f. both_ways (lt x y) (o.chain x w y f k) e)) ys h,
  )

  filter-put : (z x : X) (ys : List X) → Rises ys → filter (ties lt z) (put_by lt x ys) ≡ filter (ties lt z) (ys ++ x ∷ [])
  filter-put z x [] h = refl
  filter-put z x (y ∷ ys) h =
      let p = ties lt z in
      elim (cases_Bool (lt x y)) [
        | inr e ↦
            ap (filter p) (there x y ys e)
            ∙ ap (λ l. cond (p y) (y ∷ l) l) (filter-put z x ys h.1)
        | inl e ↦
            ap (filter p) (here x y ys e)
            ∙ elim (cases_Bool (p x)) [
              | inl t ↦
                  let none = filter-none p (y ∷ ys) (each-weaker (λ w. lt x w ≡ true) (λ w. p w ≡ false) (λ w k. apart z x w t k) (y ∷ ys) (after-all x y ys e h.0)) in
                  filter-kept p x (y ∷ ys) t ∙ ap (λ l. x ∷ l) none
                  ∙ sym (filter-append p (y ∷ ys) (x ∷ []) ∙ ap (λ l. l ++ filter p (x ∷ [])) none ∙ filter-kept p x [] t)
              | inr f ↦
                  filter-dropped p x (y ∷ ys) f
                  ∙ sym (filter-append p (y ∷ ys) (x ∷ []) ∙ ap (λ l. filter p (y ∷ ys) ++ l) (filter-dropped p x [] f) ∙ append-nil (filter p (y ∷ ys)))
            ]
      ]

  filter-all : (z : X) (xs ys : List X) → Rises ys → filter (ties lt z) (put_all lt xs ys) ≡ filter (ties lt z) (ys ++ xs)
  filter-all z [] ys h = ap (filter (ties lt z)) (sym (append-nil ys))
  filter-all z (x ∷ xs) ys h =
      let p = ties lt z in
      filter-all z xs (put_by lt x ys) (rises-put x ys h)
      ∙ filter-append p (put_by lt x ys) xs
      ∙ ap (λ l. l ++ filter p xs) (filter-put z x ys h)
      ∙ sym (filter-append p (ys ++ x ∷ []) xs)
      ∙ ap (filter p) (append_assoc ys (x ∷ []) xs)

  -- ---- one list

  rises-from : (ys : List X) → ((i j : ℕ) (d : X) → i ≤ j → j < length ys → lt (get_or ys j d) (get_or ys i d) ≡ false) → Rises ys
  rises-from [] h = tt
  rises-from (y ∷ ys) h = (
    each-at (λ b. lt b y ≡ false) ys (λ j d l. h zero (suc j) d zero-le (suc-le-suc l)),
    rises-from ys (λ i j d le l. h (suc i) (suc j) d (suc-le-suc le) (suc-le-suc l)),
  )

  -- a member of one list does not come before the head of the other, where both have the same ties
  head-least : (z y : X) (ys zs : List X) → Rises (y ∷ ys) → filter (ties lt z) (y ∷ ys) ≡ filter (ties lt z) (z ∷ zs) → lt z y ≡ false
  head-least z y ys zs h e =
      let has : Has (filter (ties lt z) (y ∷ ys)) z =
      subst (λ l. Has l z) (sym (e ∙ filter-kept (ties lt z) z zs (tie-of z z (itself z) (itself z)))) (inl refl) in
      elim (filter-has (ties lt z) (y ∷ ys) z has).0 [
        | inl k ↦ subst (λ w. lt w y ≡ false) k (itself y)
        | inr k ↦ each-has (λ b. lt b y ≡ false) ys h.0 z k
      ]

  same-lists : (ys zs : List X) → Rises ys → Rises zs → ((x : X) → filter (ties lt x) ys ≡ filter (ties lt x) zs) → ys ≡ zs
  same-lists [] [] left right same = refl
  same-lists [] (z ∷ zs) left right same =
      let clash = same z ∙ filter-kept (ties lt z) z zs (tie-of z z (itself z) (itself z)) in cc
  same-lists (y ∷ ys) [] left right same =
      let clash = sym (same y) ∙ filter-kept (ties lt y) y ys (tie-of y y (itself y) (itself y)) in cc
  same-lists (y ∷ ys) (z ∷ zs) left right same =
      let up = head-least z y ys zs left (same z) in
      let down = head-least y z zs ys right (sym (same y)) in
      let heads = sym (filter-kept (ties lt y) y ys (tie-of y y (itself y) (itself y))) ∙ same y ∙ filter-kept (ties lt y) z zs (tie-of y z down up) in
      let head : y ≡ z = cc in
      let tails : (x : X) → filter (ties lt x) ys ≡ filter (ties lt x) zs =
      λ x. elim (cases_Bool (ties lt x y)) [
        | inl with ↦
            let both = sym (filter-kept (ties lt x) y ys with) ∙ same x ∙ filter-kept (ties lt x) z zs (ap (ties lt x) (sym head) ∙ with) in cc
        | inr without ↦
            sym (filter-dropped (ties lt x) y ys without) ∙ same x ∙ filter-dropped (ties lt x) z zs (ap (ties lt x) (sym head) ∙ without)
      ] in
      ap (λ w. w ∷ ys) head ∙ ap (λ l. z ∷ l) (same-lists ys zs left.1 right.1 tails)

  -- a stable sort puts each member in its place
  pub is-sorted : (xs ys : List X) → IsSortedBy lt ys → IsStableBy lt xs ys → ys ≡ put_all lt xs []
  is-sorted xs ys up stable =
      same-lists ys (put_all lt xs []) (rises-from ys (sorted_far lt o ys up)) (rises-all xs [] tt)
      (λ x. stable x ∙ sym (filter-all x xs [] tt))
