-- No chain of the strict order leads back in a thread's list.
use Rattle.std.proofs.Common.{◌≡◌, ◌≢◌, ℕ, ◌<◌, ◌≤◌, ◌||◌, true, List, [], ◌∷◌, sym, ap, ◌∙◌, subst, inl, inr, ◌⊎◌, arith}
use Rattle.std.proofs.lemmas.Bool.{cases_order, or_left, or_right}
use Rattle.upc_values.specs.Lists.{Has, Each, Precedes, Pairwise}
use Rattle.upc_values.specs.Operations.{Operation}
use Rattle.upc_values.specs.Orders.{rank, name_of}
use Rattle.upc_values.specs.Consistent.{IsOrderOf}
use Rattle.upc_values.proofs.Membership.{each-has, filter-has, filter-precedes, pairs-at, pairs-from, pairs-weaker, precedes-has, precedes-total, precedes-strict, precedes-trans, Distinct}
use Rattle.upc_verify_orders.specs.Strict.{StrictBy}
use Rattle.upc_verify_orders.specs.layer.Reach.{is_until, is_from, InThread}
use Rattle.upc_verify_orders.proofs.Places.{links}
use Rattle.upc_verify_orders.proofs.Reaching.{StrictOf, same-name, until-is, from-is, goes-on}
use Rattle.replica_space.specs.ReplicaOrders.{Placed, operations}
use Rattle.replica_space_lists.specs.layer.Keeping.{StandsBefore}
use Rattle.replica_space_lists.proofs.Splitting.{strict_of}

-- as members of a list stand, by their operations
abbrev pub Before : ℕ → Operation → Operation → Type 0
Before t a b =
    (name_of a ≢ name_of b) × (a.thread ≡ b.thread → ((a.thread ≡ t) ⊎ ((a.strict || b.strict) ≡ true)) → rank a < rank b)

each-operation : (t : ℕ) (x : Placed) (xs : List Placed) → Each (StandsBefore t x) xs → Each (Before t x.operation) (operations xs)
each-operation t x [] h = tt
each-operation t x (y ∷ ys) h = (h.0, each-operation t x ys h.1)

pub pairs-operation : (t : ℕ) (xs : List Placed) → Pairwise (StandsBefore t) xs → Pairwise (Before t) (operations xs)
pairs-operation t [] h = tt
pairs-operation t (x ∷ xs) h = (each-operation t x xs h.0, pairs-operation t xs h.1)

-- one name, one member
pub one-member : (t : ℕ) (os : List Operation) → Pairwise (Before t) os → (a b : Operation) → Has os a → Has os b → name_of a ≡ name_of b → a ≡ b
one-member t [] h a b x y e = absurd x
one-member t (o ∷ os) h a b (inl p) (inl q) e = sym p ∙ q
one-member t (o ∷ os) h a b (inl p) (inr y) e = absurd ((each-has (Before t o) os h.0 b y).0 (ap name_of p ∙ e))
one-member t (o ∷ os) h a b (inr x) (inl q) e = absurd ((each-has (Before t o) os h.0 a x).0 (ap name_of q ∙ sym e))
one-member t (o ∷ os) h a b (inr x) (inr y) e = one-member t os h.1 a b x y e

-- the strict ones of a list: no name twice, and in program order
pub record StrictPairs (strict : List Operation) : Type 0 where
  pub once : Pairwise (λ a b. name_of a ≢ name_of b) strict
  pub kept : Pairwise InThread strict

pub strict-pairs : (t : ℕ) (os : List Operation) → Pairwise (Before t) os → StrictPairs (strict_of os)
strict-pairs t os h = record {
  once = pairs-from (λ a b. name_of a ≢ name_of b) (strict_of os) (λ a b p. (pairs-at (Before t) os h a b (filter-precedes (λ o. o.strict) os a b p)).0);
  kept =
      pairs-from InThread (strict_of os)
      (λ a b p e.
      let s = (filter-has (λ o. o.strict) os a (precedes-has (strict_of os) a b p).0).1 in
      (pairs-at (Before t) os h a b (filter-precedes (λ o. o.strict) os a b p)).1 e (inr (or_left a.strict b.strict s)));
}

module _ (set : Operation → Type 0) (strict : List Operation) (whole : IsOrderOf (StrictOf set) strict) (kept : Pairwise InThread strict)
    (one : (a b : Operation) → set a → set b → name_of a ≡ name_of b → a ≡ b)
    (t : ℕ) (os : List Operation) (order : Pairwise (Before t) os) (same : strict_of os ≡ strict) (of : (o : Operation) → Has os o → set o) where
  distinct : Distinct os
  distinct = pairs-weaker (Before t) (λ a b. a ≢ b) (λ a b k e. k.0 (ap name_of e)) os order

  has-strict : (s : Operation) → Has strict s → Has os s × (s.strict ≡ true)
  has-strict s w = filter-has (λ o. o.strict) os s (subst (λ l. Has l s) (sym same) w)

  -- of one thread, one of them strict, in program order: they stand so
  stands : (a b : Operation) → Has os a → Has os b → a.thread ≡ b.thread → (a.strict || b.strict) ≡ true → (b.strict || a.strict) ≡ true → rank a ≤ rank b
      → (a ≡ b) ⊎ Precedes os a b
  stands a b x y e s z r =
      elim (cases_order (rank a) (rank b)) [
        | inl q ↦ inl (one a b (of a x) (of b y) (same-name a b e q))
        | inr k ↦ elim k [
          | inl lt ↦ elim (precedes-total os a b (λ q. let w = ap rank q in omega arith) x y) [
            | inl p ↦ inr p
            | inr p ↦ let w = (pairs-at (Before t) os order b a p).1 (sym e) (inr z) in absurd (omega arith)
          ]
          | inr gt ↦ absurd (omega arith)
        ]
      ]

  onward : (a b c : Operation) → Precedes os a b → (b ≡ c) ⊎ Precedes os b c → Precedes os a c
  onward a b c p (inl e) = subst (λ z. Precedes os a z) e p
  onward a b c p (inr q) = precedes-trans os distinct a b c p q

  pub agrees : (a b : Operation) → Precedes os a b → StrictBy set strict b a → ⊥
  agrees a b p c =
      let m = precedes-has os a b p in
      let k = links (is_from b) (is_until a) strict (goes-on set strict whole kept b a c) in
      let f = from-is b k.first k.passes_first in
      let u = until-is a k.second k.passes_second in
      let x = has-strict k.first k.has_first in
      let y = has-strict k.second k.has_second in
      let to-first = stands b k.first m.1 x.0 (sym f.0) (or_right b.strict k.first.strict x.1) (or_left k.first.strict b.strict x.1) f.1 in
      let between : (k.first ≡ k.second) ⊎ Precedes os k.first k.second =
      elim k.linked [
        | inl e ↦ inl e
        | inr w ↦ inr (filter-precedes (λ o. o.strict) os k.first k.second (subst (λ l. Precedes l k.first k.second) (sym same) w))
      ] in
      let to-a = stands k.second a y.0 m.0 u.0 (or_left k.second.strict a.strict y.1) (or_right a.strict k.second.strict y.1) u.1 in
      precedes-strict os distinct a
      (onward a k.second a (onward a k.first k.second (onward a b k.first p to-first) between) to-a)
