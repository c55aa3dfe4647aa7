-- The strict order of a list leads from one operation to another just where the places say so.
use Rattle.std.proofs.Common.{◌≡◌, ◌≢◌, ◌↔◌, ℕ, ◌+◌, ◌*◌, ◌<◌, cond, ◌≤◌, ◌==◌, nat_le, Bool, true, false, ◌||◌, List, refl, sym, ap, ◌∙◌, subst, inl, inr, ◌⊎◌, arith, eq-eqb, eqb-true, leb-true, le-leb}
use Rattle.std.proofs.lemmas.Bool.{cases_Bool, cases_order, cases_lt, false≢true, and_parts, and_from}
use Rattle.upc_values.specs.Lists.{Has, Pairwise}
use Rattle.upc_values.specs.Operations.{Operation}
use Rattle.upc_values.specs.Orders.{rank, name_of}
use Rattle.upc_values.specs.Consistent.{IsOrderOf}
use Rattle.upc_values.proofs.Membership.{pairs-weaker}
use Rattle.upc_verify_orders.specs.Strict.{StrictBy, As_listed, As_written, Through}
use Rattle.upc_values.specs.declared.order.Op.{Op}
use Rattle.upc_verify_orders.specs.layer.Reach.{is_until, is_from, reached, reaches, MayPrecede, InThread}
use Rattle.upc_verify_orders.proofs.Places.{before-places, at-place, near-places, links}

-- the strict ones of some operations
abbrev pub StrictOf : (Operation → Type 0) → Operation → Type 0
StrictOf set o = set o × (o.strict ≡ true)

-- of one thread, and at one rank: one name
same-index : (i j : ℕ) (v w : Bool) → 2 * i + cond {A = ℕ} v 0 1 ≡ 2 * j + cond {A = ℕ} w 0 1 → (i ≡ j) × (v ≡ w)
same-index i j true true h = (omega arith, refl)
same-index i j true false h = absurd (omega arith)
same-index i j false true h = absurd (omega arith)
same-index i j false false h = (omega arith, refl)

op-parts : (t i u j : ℕ) (v w : Bool) → t ≡ u → i ≡ j → v ≡ w → let a : Op = record { thread = t; index = i; write = v } in a ≡ record { thread = u; index = j; write = w }
op-parts t i u j v w x y z =
    let P : ℕ → ℕ → Bool → Type 0 = λ a b c. let o : Op = record { thread = t; index = i; write = v } in o ≡ record { thread = a; index = b; write = c } in
    subst (λ c. P u j c) z (subst (λ b. P u b v) y (subst (λ a. P a i v) x refl))

pub same-name : (a b : Operation) → a.thread ≡ b.thread → rank a ≡ rank b → name_of a ≡ name_of b
same-name a b e r =
    let k = same-index a.index b.index a.write b.write r in
    op-parts a.thread a.index b.thread b.index a.write b.write e k.0 k.1

pub until-of : (o s : Operation) → s.thread ≡ o.thread → rank s ≤ rank o → is_until o s ≡ true
until-of o s e r = and_from (s.thread == o.thread) (nat_le (rank s) (rank o)) (eq-eqb s.thread o.thread e) (le-leb (rank s) (rank o) r)

pub from-of : (o s : Operation) → s.thread ≡ o.thread → rank o ≤ rank s → is_from o s ≡ true
from-of o s e r = and_from (s.thread == o.thread) (nat_le (rank o) (rank s)) (eq-eqb s.thread o.thread e) (le-leb (rank o) (rank s) r)

pub until-is : (o s : Operation) → is_until o s ≡ true → (s.thread ≡ o.thread) × (rank s ≤ rank o)
until-is o s h =
    let k = and_parts (s.thread == o.thread) (nat_le (rank s) (rank o)) h in
    (eqb-true s.thread o.thread k.0, leb-true (rank s) (rank o) k.1)

pub from-is : (o s : Operation) → is_from o s ≡ true → (s.thread ≡ o.thread) × (rank o ≤ rank s)
from-is o s h =
    let k = and_parts (s.thread == o.thread) (nat_le (rank o) (rank s)) h in
    (eqb-true s.thread o.thread k.0, leb-true (rank o) (rank s) k.1)

or-second : (x y : Bool) → x ≡ false → (x || y) ≡ true → y ≡ true
or-second true y e h = absurd (false≢true (sym e))
or-second false y e h = h

-- nothing at or before an operation stands behind what is at or behind it
turned-away : (o a b : Operation) → InThread a b → is_from o a ≡ true → is_until o b ≡ false
turned-away o a b k f =
    elim (cases_Bool (is_until o b)) [
      | inr n ↦ n
      | inl t ↦
          let x = from-is o a f in
          let y = until-is o b t in
          let r : rank a < rank b = k (x.0 ∙ sym y.0) in
          let u : rank o ≤ rank a = x.1 in
          let v : rank b ≤ rank o = y.1 in
          absurd (omega arith)
    ]

module _ (set : Operation → Type 0) (strict : List Operation) (whole : IsOrderOf (StrictOf set) strict) (kept : Pairwise InThread strict) where
  pub near : (o : Operation) → reached strict o ≤ reaches strict o + 1
  near o =
      near-places (is_from o) (is_until o) strict
      (pairs-weaker InThread (λ a b. is_from o a ≡ true → is_until o b ≡ false) (λ a b k. turned-away o a b k) strict kept)

  -- through a strict operation of both threads
  through : (a b s : Operation) → Has strict s → is_from a s ≡ true → is_until b s ≡ true → reaches strict a < reached strict b
  through a b s m x y = at-place (is_from a) (is_until b) strict s m x y

  -- each step, and so each chain, goes on
  pub goes-on : (a b : Operation) → StrictBy set strict a b → reaches strict a < reached strict b
  goes-on _ _ (As_listed a b p) =
      before-places (is_from a) (is_until b) strict a b p (from-of a a refl (omega arith)) (until-of b b refl (omega arith))
  goes-on _ _ (As_written a b x y w) =
      let r : rank a < rank b = w.2 in
      elim (cases_Bool a.strict) [
        | inl t ↦
            through a b a (whole.has a (x, t)) (from-of a a refl (omega arith)) (until-of b a w.0 (omega arith))
        | inr f ↦
            through a b b (whole.has b (y, or-second a.strict b.strict f w.1)) (from-of a b (sym w.0) (omega arith))
            (until-of b b refl (omega arith))
      ]
  goes-on _ _ (Through a b c p q) =
      let x = goes-on a b p in
      let y = goes-on b c q in
      let n = near b in
      omega arith

  module _ (one : (a b : Operation) → set a → set b → name_of a ≡ name_of b → a ≡ b) where
    -- an operation, and one of its thread at or behind it of which one is strict
    up : (a s : Operation) → set a → set s → s.strict ≡ true → s.thread ≡ a.thread → rank a ≤ rank s → (a ≡ s) ⊎ StrictBy set strict a s
    up a s x y t e r =
        elim (cases_order (rank a) (rank s)) [
          | inl q ↦ inl (one a s x y (same-name a s (sym e) q))
          | inr k ↦ elim k [
            | inl lt ↦ inr (As_written a s x y (sym e, or-true a.strict s.strict t, lt))
            | inr gt ↦ absurd (omega arith)
          ]
        ]
      where
        or-true : (x y : Bool) → y ≡ true → (x || y) ≡ true
        or-true true y e = refl
        or-true false y e = e

    down : (s b : Operation) → set s → set b → s.strict ≡ true → s.thread ≡ b.thread → rank s ≤ rank b → (s ≡ b) ⊎ StrictBy set strict s b
    down s b x y t e r =
        elim (cases_order (rank s) (rank b)) [
          | inl q ↦ inl (one s b x y (same-name s b e q))
          | inr k ↦ elim k [
            | inl lt ↦ inr (As_written s b x y (e, ap (λ z. z || b.strict) t, lt))
            | inr gt ↦ absurd (omega arith)
          ]
        ]

    joined : (a b c : Operation) → (a ≡ b) ⊎ StrictBy set strict a b → (b ≡ c) ⊎ StrictBy set strict b c → (a ≡ c) ⊎ StrictBy set strict a c
    joined a b c (inl e) (inl f) = inl (e ∙ f)
    joined a b c (inl e) (inr q) = inr (subst (λ z. StrictBy set strict z c) (sym e) q)
    joined a b c (inr p) (inl f) = inr (subst (λ z. StrictBy set strict a z) f p)
    joined a b c (inr p) (inr q) = inr (Through a b c p q)

    -- where the places say so, a chain leads from a to b
    pub leads : (a b : Operation) → set a → set b → (a ≢ b) → reaches strict a < reached strict b → StrictBy set strict a b
    leads a b x y n h =
        let k = links (is_from a) (is_until b) strict h in
        let s = whole.only k.first k.has_first in
        let t = whole.only k.second k.has_second in
        let f = from-is a k.first k.passes_first in
        let u = until-is b k.second k.passes_second in
        let middle : (k.first ≡ k.second) ⊎ StrictBy set strict k.first k.second =
        elim k.linked [ inl e ↦ inl e | inr p ↦ inr (As_listed k.first k.second p) ] in
        elim (joined a k.second b (joined a k.first k.second (up a k.first x s.0 s.1 f.0 f.1) middle)
        (down k.second b t.0 y t.1 u.0 u.1)) [
          | inl e ↦ absurd (n e)
          | inr q ↦ q
        ]

    -- the walk's test is exact
    pub exact : (a b : Operation) → set a → set b → (a ≢ b) → (MayPrecede strict a b ↔ (StrictBy set strict b a → ⊥))
    exact a b x y n = (
      λ m s. let k = goes-on b a s in let w : reached strict a ≤ reaches strict b = m in absurd (omega arith),
      λ no. elim (cases_lt (reaches strict b) (reached strict a)) [
        | inl k ↦ absurd (no (leads b a y x (λ e. n (sym e)) k))
        | inr m ↦ m
      ],
    )
