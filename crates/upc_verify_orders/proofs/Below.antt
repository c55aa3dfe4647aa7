-- The operations of a journal are those of its threads.
use Rattle.std.proofs.Common.{◌≡◌, ℕ, ◌+◌, ◌<◌, List, [], ◌∷◌, refl, sym, subst, inl, inr, arith}
use Rattle.std.proofs.lemmas.Bool.{cases_order}
use Rattle.upc_values.specs.declared.record.Item.{Item}
use Rattle.upc_values.specs.declared.record.Item.TheVariants.{Did, Stall}
use Rattle.upc_values.specs.declared.journal.Journal.{Journal}
use Rattle.upc_values.specs.Lists.{Each, Has}
use Rattle.upc_values.specs.Operations.{Access, Nothing, Reads, Writes, Writes_sync, Reads_sync, Writes_and_reads_sync, Operation, access, operations_by}
use Rattle.upc_values.specs.Orders.{IsOf, operations_of, operations_from, record_of}
use Rattle.upc_values.proofs.Membership.{has-cases, has-left, has-right, each-append, each-has}
use Rattle.upc_verify_orders.specs.code.Below.{operations_below}

pub by-thread : (t i : ℕ) (a : Access) → Each (λ o. o.thread ≡ t) (operations_by t i a)
by-thread t i Nothing = tt
by-thread t i (Reads l s v) = (refl, tt)
by-thread t i (Writes l s v) = (refl, tt)
by-thread t i Writes_sync = (refl, tt)
by-thread t i Reads_sync = (refl, tt)
by-thread t i Writes_and_reads_sync = (refl, (refl, tt))

from-thread : (t n : ℕ) (items : List Item) → Each (λ o. o.thread ≡ t) (operations_from t n items)
from-thread t n [] = tt
from-thread t n (Stall ∷ items) = from-thread t n items
from-thread t n (Did a r ∷ items) =
    each-append (λ o. o.thread ≡ t) (operations_by t n (access a r)) (operations_from t (n + 1) items)
    (by-thread t n (access a r)) (from-thread t (n + 1) items)

pub of-thread : (j : Journal) (t : ℕ) (o : Operation) → Has (operations_of j t) o → o.thread ≡ t
of-thread j t o m = each-has (λ x. x.thread ≡ t) (operations_of j t) (from-thread t 0 (record_of j t)) o m

pub below-only : (j : Journal) (n : ℕ) (o : Operation) → Has (operations_below j n) o → (o.thread < n) × Has (operations_of j o.thread) o
below-only j ℕ.zero o m = absurd m
below-only j (ℕ.suc n) o m =
    elim (has-cases (operations_below j n) (operations_of j n) o m) [
      | inl k ↦ let h = below-only j n o k in (omega arith, h.1)
      | inr k ↦
          let e = of-thread j n o k in
          (omega arith, subst (λ t. Has (operations_of j t) o) (sym e) k)
    ]

pub below-has : (j : Journal) (n : ℕ) (o : Operation) → o.thread < n → Has (operations_of j o.thread) o → Has (operations_below j n) o
below-has j ℕ.zero o h m = absurd (omega arith)
below-has j (ℕ.suc n) o h m =
    elim (cases_order o.thread n) [
      | inl e ↦
          has-right (operations_below j n) (operations_of j n) o (subst (λ t. Has (operations_of j t) o) e m)
      | inr q ↦ elim q [
        | inl lt ↦ has-left (operations_below j n) (operations_of j n) o (below-has j n o lt m)
        | inr gt ↦ absurd (omega arith)
      ]
    ]

pub all-below : (j : Journal) (o : Operation) → (Has (operations_below j j.threads) o → IsOf j o) × (IsOf j o → Has (operations_below j j.threads) o)
all-below j o = (λ m. below-only j j.threads o m, λ h. below-has j j.threads o h.0 h.1)
