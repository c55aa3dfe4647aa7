-- The operations of a journal stand by threads, those of a thread in program order.
use Rattle.std.proofs.Common.{◌≡◌, ℕ, ◌+◌, ◌*◌, ◌<◌, ◌≤◌, Bool, true, false, cond, List, [], ◌∷◌, ◌++◌, length, get_or, refl, sym, ◌∙◌, subst, inl, inr, arith}
use Rattle.std.proofs.lemmas.Bool.{cases_order}
use Rattle.std.proofs.lemmas.List.{get_or_default}
use Rattle.upc_values.specs.declared.record.Item.{Item}
use Rattle.upc_values.specs.declared.record.Item.TheVariants.{Did, Stall}
use Rattle.upc_values.specs.declared.journal.Journal.{Journal}
use Rattle.upc_values.specs.declared.order.Op.{Op}
use Rattle.upc_values.specs.Lists.{Each, Has, Pairwise}
use Rattle.upc_values.specs.Operations.{Access, Nothing, Reads, Writes, Writes_sync, Reads_sync, Writes_and_reads_sync, Operation, access, operations_by}
use Rattle.upc_values.specs.Orders.{operations_of, operations_from, record_of, rank, name_of}
use Rattle.upc_values.proofs.Lists.{each-at}
use Rattle.upc_values.proofs.Membership.{each-append, each-from, each-has, each-weaker, pairs-insert, pairs-weaker}
use Rattle.upc_verify_orders.specs.code.Tables.{op_rank}
use Rattle.upc_verify_orders.specs.code.Below.{operations_below}
use Rattle.upc_verify_orders.specs.code.Found.{IsBefore, AreSorted}
use Rattle.upc_verify_orders.proofs.Below.{of-thread, below-only}

-- one list behind another
pairs-append : {X : Type 0} (R : X → X → Type 0) (xs ys : List X) → Pairwise R xs → Pairwise R ys → Each (λ a. Each (R a) ys) xs → Pairwise R (xs ++ ys)
pairs-append R xs ys h k each = pairs-insert R [] xs ys k h tt each

by-index : (t i : ℕ) (a : Access) → Each (λ o. o.index ≡ i) (operations_by t i a)
by-index t i Nothing = tt
by-index t i (Reads l s v) = (refl, tt)
by-index t i (Writes l s v) = (refl, tt)
by-index t i Writes_sync = (refl, tt)
by-index t i Reads_sync = (refl, tt)
by-index t i Writes_and_reads_sync = (refl, (refl, tt))

by-thread : (t i : ℕ) (a : Access) → Each (λ o. o.thread ≡ t) (operations_by t i a)
by-thread t i Nothing = tt
by-thread t i (Reads l s v) = (refl, tt)
by-thread t i (Writes l s v) = (refl, tt)
by-thread t i Writes_sync = (refl, tt)
by-thread t i Reads_sync = (refl, tt)
by-thread t i Writes_and_reads_sync = (refl, (refl, tt))

by-sorted : (t i : ℕ) (a : Access) → AreSorted (operations_by t i a)
by-sorted t i Nothing = tt
by-sorted t i (Reads l s v) = (tt, tt)
by-sorted t i (Writes l s v) = (tt, tt)
by-sorted t i Writes_sync = (tt, tt)
by-sorted t i Reads_sync = (tt, tt)
by-sorted t i Writes_and_reads_sync = ((inr (refl, omega arith), tt), (tt, tt))

-- an operation of an earlier action of the thread
earlier : (a b : Operation) → a.thread ≡ b.thread → a.index < b.index → IsBefore a (name_of b)
earlier a b e lt = inr (e, ranks a.index b.index a.write b.write lt)
  where
    ranks : (i j : ℕ) (v w : Bool) → i < j → 2 * i + cond {A = ℕ} v 0 1 < 2 * j + cond {A = ℕ} w 0 1
    ranks i j true true lt = omega arith
    ranks i j true false lt = omega arith
    ranks i j false true lt = omega arith
    ranks i j false false lt = omega arith

from-least : (t n : ℕ) (items : List Item) → Each (λ o. (o.thread ≡ t) × (n ≤ o.index)) (operations_from t n items)
from-least t n [] = tt
from-least t n (Stall ∷ items) = from-least t n items
from-least t n (Did a r ∷ items) =
    let first = operations_by t n (access a r) in
    let rest = operations_from t (n + 1) items in
    each-append (λ o. (o.thread ≡ t) × (n ≤ o.index)) first rest
    (each-from (λ o. (o.thread ≡ t) × (n ≤ o.index)) first
    (λ o m.
    let e : o.index ≡ n = each-has (λ x. x.index ≡ n) first (by-index t n (access a r)) o m in
    (each-has (λ x. x.thread ≡ t) first (by-thread t n (access a r)) o m, omega arith)))
    (each-weaker (λ o. (o.thread ≡ t) × (n + 1 ≤ o.index)) (λ o. (o.thread ≡ t) × (n ≤ o.index))
    (λ o h. let k : n + 1 ≤ o.index = h.1 in (h.0, omega arith)) rest (from-least t (n + 1) items))

from-sorted : (t n : ℕ) (items : List Item) → AreSorted (operations_from t n items)
from-sorted t n [] = tt
from-sorted t n (Stall ∷ items) = from-sorted t n items
from-sorted t n (Did a r ∷ items) =
    let first = operations_by t n (access a r) in
    let rest = operations_from t (n + 1) items in
    pairs-append (λ x y. IsBefore x (name_of y)) first rest (by-sorted t n (access a r)) (from-sorted t (n + 1) items)
    (each-from (λ x. Each (λ y. IsBefore x (name_of y)) rest) first
    (λ x m.
    each-from (λ y. IsBefore x (name_of y)) rest
    (λ y k.
    let i : x.index ≡ n = each-has (λ z. z.index ≡ n) first (by-index t n (access a r)) x m in
    let u : x.thread ≡ t = each-has (λ z. z.thread ≡ t) first (by-thread t n (access a r)) x m in
    let w = each-has (λ z. (z.thread ≡ t) × (n + 1 ≤ z.index)) rest (from-least t (n + 1) items) y k in
    let q : n + 1 ≤ y.index = w.1 in
    earlier x y (u ∙ sym w.0) (omega arith))))

pub below-sorted : (j : Journal) (n : ℕ) → AreSorted (operations_below j n)
below-sorted j ℕ.zero = tt
below-sorted j (ℕ.suc n) =
    let first = operations_below j n in
    let rest = operations_of j n in
    pairs-append (λ x y. IsBefore x (name_of y)) first rest (below-sorted j n) (from-sorted n 0 (record_of j n))
    (each-from (λ x. Each (λ y. IsBefore x (name_of y)) rest) first
    (λ x m.
    each-from (λ y. IsBefore x (name_of y)) rest
    (λ y k.
    let lt : x.thread < n = (below-only j n x m).0 in
    let e : y.thread ≡ n = of-thread j n y k in
    inl (omega arith))))

pub before-trans : (a b : Operation) (n : Op) → IsBefore a (name_of b) → IsBefore b n → IsBefore a n
before-trans a b n (inl x) (inl y) = inl (omega arith)
before-trans a b n (inl x) (inr y) = let e : b.thread ≡ n.thread = y.0 in inl (omega arith)
before-trans a b n (inr x) (inl y) = let e : a.thread ≡ b.thread = x.0 in inl (omega arith)
before-trans a b n (inr x) (inr y) =
    let u : rank a < rank b = x.1 in
    let v : rank b < op_rank n = y.1 in
    inr (x.0 ∙ y.0, omega arith)

pub before-not : (o : Operation) → IsBefore o (name_of o) → ⊥
before-not o (inl x) = absurd (omega arith)
before-not o (inr x) = let u : rank o < rank o = x.1 in absurd (omega arith)

-- two members of a list, by their numbers
pub pairs-get : {X : Type 0} (R : X → X → Type 0) (xs : List X) → Pairwise R xs → (i j : ℕ) (d e : X) → i < j → j < length xs → R (get_or xs i d) (get_or xs j e)
pairs-get R [] h i j d e lt within = absurd (omega arith)
pairs-get R (x ∷ xs) h i ℕ.zero d e lt within = absurd (omega arith)
pairs-get R (x ∷ xs) h ℕ.zero (ℕ.suc j) d e lt within = each-at (R x) xs j e h.0 (omega arith)
pairs-get R (x ∷ xs) h (ℕ.suc i) (ℕ.suc j) d e lt within = pairs-get R xs h.1 i j d e (omega arith) (omega arith)

-- where what holds of a member holds of those before it
module _ {X : Type 0} (P : X → Type 0) (xs : List X) (down : Pairwise (λ a b. P b → P a) xs) where
  pub so-below : (m i : ℕ) (d e : X) → m < length xs → P (get_or xs m e) → i < m + 1 → P (get_or xs i d)
  so-below m i d e within h lt =
      elim (cases_order i m) [
        | inl q ↦
            subst (λ k. P (get_or xs k d)) (sym q) (subst P (get_or_default xs m e d within) h)
        | inr k ↦ elim k [
          | inl less ↦ pairs-get (λ a b. P b → P a) xs down i m d e less within h
          | inr more ↦ absurd (omega arith)
        ]
      ]

  pub not-above : (m i : ℕ) (d e : X) → i < length xs → (P (get_or xs m e) → ⊥) → m ≤ i → P (get_or xs i d) → ⊥
  not-above m i d e within not le p =
      elim (cases_order m i) [
        | inl q ↦
            not (subst (λ k. P (get_or xs k e)) (sym q) (subst P (get_or_default xs i d e within) p))
        | inr k ↦ elim k [
          | inl less ↦ not (pairs-get (λ a b. P b → P a) xs down m i e d less within p)
          | inr more ↦ absurd (omega arith)
        ]
      ]

-- those that stand before a name
pub sorted-down : (operations : List Operation) (n : Op) → AreSorted operations → Pairwise (λ a b. IsBefore b n → IsBefore a n) operations
sorted-down operations n h =
    pairs-weaker (λ a b. IsBefore a (name_of b)) (λ a b. IsBefore b n → IsBefore a n) (λ a b k x. before-trans a b n k x) operations h

-- one that stands before another has another name
before-other : (a b : Operation) → IsBefore a (name_of b) → name_of a ≡ name_of b → ⊥
before-other a b h e = before-not a (subst (IsBefore a) (sym e) h)

-- no two operations have one name
pub one-name : (operations : List Operation) → AreSorted operations → (a b : Operation) → Has operations a → Has operations b → name_of a ≡ name_of b → a ≡ b
one-name [] h a b x y e = absurd x
one-name (o ∷ os) h a b (inl p) (inl q) e = sym p ∙ q
one-name (o ∷ os) h a b (inl p) (inr y) e =
    absurd (before-other a b (subst (λ z. IsBefore z (name_of b)) p (each-has (λ z. IsBefore o (name_of z)) os h.0 b y)) e)
one-name (o ∷ os) h a b (inr x) (inl q) e =
    absurd (before-other b a (subst (λ z. IsBefore z (name_of a)) q (each-has (λ z. IsBefore o (name_of z)) os h.0 a x)) (sym e))
one-name (o ∷ os) h a b (inr x) (inr y) e = one-name os h.1 a b x y e

-- nor do two numbers
pub one-number : (operations : List Operation) → AreSorted operations → (i j : ℕ) (d : Operation) → i < length operations → j < length operations
    → name_of (get_or operations i d) ≡ name_of (get_or operations j d) → i ≡ j
one-number operations h i j d x y e =
    elim (cases_order i j) [
      | inl q ↦ q
      | inr k ↦ elim k [
        | inl lt ↦
            absurd (before-other (get_or operations i d) (get_or operations j d)
            (pairs-get (λ a b. IsBefore a (name_of b)) operations h i j d d lt y) e)
        | inr gt ↦
            absurd (before-other (get_or operations j d) (get_or operations i d)
            (pairs-get (λ a b. IsBefore a (name_of b)) operations h j i d d gt x) (sym e))
      ]
    ]
