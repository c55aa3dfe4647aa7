-- What stands in an entry's place: its own operations, or relaxed ones on the cell of its relaxed write.
use Rattle.std.proofs.Common.{◌≡◌, ℕ, ◌<◌, ◌==◌, nat_lt, false, List, [], ◌∷◌, ◌++◌, length, Option, Some, None, ◌⊎◌, refl, sym, ap, ◌∙◌, subst, inl, inr, eq-eqb, arith}
use Rattle.std.proofs.lemmas.Bool.{cond_both}
use Rattle.block_layout.specs.declared.place.Loc.{Loc}
use Rattle.upc_values.specs.declared.scalar.Scalar.{Scalar}
use Rattle.upc_values.specs.declared.action.Action.TheVariants.{Read, Write, Print}
use Rattle.upc_values.specs.declared.record.Item.{Item}
use Rattle.upc_values.specs.declared.record.Item.TheVariants.{Did, Stall}
use Rattle.upc_values.specs.declared.journal.Entry.{Entry}
use Rattle.upc_values.specs.declared.journal.Journal.{Journal}
use Rattle.upc_values.specs.Operations.{Operation, Cell, accesses}
use Rattle.upc_values.specs.Orders.{record_of, operations_at, placed}
use Rattle.upc_values.specs.Drain.{Commit, commit_of, Walk, start, emptied, oldest_out, with_room, passed, pending_value, put_pending, looked_up, stepped, walked_from, drained, entry_of}
use Rattle.upc_values.specs.Consistent.{FollowsBuffers}
use Rattle.upc_values.specs.Lists.{Each, Has}
use Rattle.upc_values.proofs.Membership.{has-filter, each-has, each-append, each-weaker, each-front, each-back}
use Rattle.upc_values.proofs.Numbering.{numbered-drained}
use Rattle.upc_values.proofs.Placement.{agrees-of, drains-of}
use Rattle.upc_values.proofs.Growth.{ops, IsPending, pending-stepped}
use Rattle.upc_values.proofs.Own.{IsOld, kept-drained}
use Rattle.race_report.proofs.Lists.{has-map}
use Rattle.race_report.proofs.Covering.{at-own}

-- a commit with its entry's own operations, or a relaxed write with relaxed operations on its cell
abbrev Alone : Commit → Type 0
Alone c = (c.operations ≡ accesses c.entry) ⊎ IsPending c

pending-alone : (cs : List Commit) → Each IsPending cs → Each Alone cs
pending-alone cs h = each-weaker IsPending Alone (λ c p. inr p) cs h

alone-passed : (e : Entry) (w : Walk) → Each Alone w.emitted → Each Alone (passed e w).emitted
alone-passed e w h = each-append Alone w.emitted (commit_of e ∷ []) h (inl refl, tt)

alone-emptied : (w : Walk) → Each IsPending w.pending → Each Alone w.emitted → Each Alone (emptied w).emitted
alone-emptied w p h = each-append Alone w.emitted w.pending h (pending-alone w.pending p)

alone-oldest_out : (w : Walk) (cs : List Commit) → Each IsPending cs → Each Alone w.emitted → Each Alone (oldest_out cs w).emitted
alone-oldest_out w [] p h = h
alone-oldest_out w (c ∷ cs) p h = each-append Alone w.emitted (c ∷ []) h (inr p.0, tt)

alone-with_room : (w : Walk) → Each IsPending w.pending → Each Alone w.emitted → Each Alone (with_room w).emitted
alone-with_room w p h =
    cond_both (nat_lt (length w.pending) 64) w (oldest_out w.pending w) (λ z. Each Alone z.emitted) (λ e. h)
    (λ e. alone-oldest_out w w.pending p h)

alone-put : (l : Loc) (e : Entry) (o : Option Scalar) (w : Walk) → Each IsPending w.pending → Each Alone w.emitted → Each Alone (put_pending l e o w).emitted
alone-put l e None w p h = alone-with_room w p h
alone-put l e (Some v) w p h = h

alone-looked_up : (l : Loc) (e : Entry) (o : Option Scalar) (w : Walk) → Each Alone w.emitted → Each Alone (looked_up l e o w).emitted
alone-looked_up l e None w h = alone-passed e w h
alone-looked_up l e (Some v) w h = h

alone-stepped : (t : ℕ) (w : Walk) (x : Item) → Each IsPending w.pending → Each Alone w.emitted → Each Alone (stepped t w x).emitted
alone-stepped t w Stall p h = alone-emptied w p h
alone-stepped t w (Did (Write false l v) r) p h =
    alone-put l (entry_of t w.next (Write false l v) r) (pending_value l w.pending) w p h
alone-stepped t w (Did (Read l false) r) p h =
    alone-looked_up l (entry_of t w.next (Read l false) r) (pending_value l w.pending) w h
alone-stepped t w (Did (Print x) r) p h = alone-passed (entry_of t w.next (Print x) r) w h
alone-stepped t w (Did a r) p h = alone-passed (entry_of t w.next a r) (emptied w) (alone-emptied w p h)

alone-walked_from : (t : ℕ) (w : Walk) (xs : List Item) → Each IsPending w.pending → Each Alone w.emitted → Each Alone (emptied (walked_from t w xs)).emitted
alone-walked_from t w [] p h = alone-emptied w p h
alone-walked_from t w (x ∷ xs) p h =
    alone-walked_from t (stepped t w x) xs (pending-stepped t w x p) (alone-stepped t w x p h)

alone-drained : (t : ℕ) (items : List Item) → Each Alone (drained t items).emitted
alone-drained t items = alone-walked_from t start items tt tt

-- the entry is a relaxed write, and these are relaxed operations on its cell
pub record IsPut (e : Entry) (os : List Operation) : Type 0 where
  pub loc : Loc
  pub value : Scalar
  pub is : e.action ≡ Write false loc value
  pub here : Each (λ o. (o.strict ≡ false) × (o.place ≡ Cell loc)) os

module _ (j : Journal) (f : FollowsBuffers j) where
  pub placed-alone : (e : Entry) → e.thread < j.threads → Has j.history e → (placed j e ≡ accesses e) ⊎ IsPut e (placed j e)
  placed-alone e b m =
      let t = e.thread in
      let w = drained t (record_of j t) in
      let here = has-filter (λ x. x.thread == t) j.history e (eq-eqb t t refl) m in
      let k = has-map (λ c. c.entry) w.emitted e (subst (λ l. Has l e) (drains-of j t f b) here) in
      let c : Commit = k.0 in
      let once = (numbered-drained t (record_of j t) (agrees-of j t f b)).once c.entry.index in
      let own : operations_at c.entry.index w.emitted ≡ c.operations = at-own c w.emitted (omega arith) k.1 in
      let same : placed j e ≡ c.operations = ap (λ z. operations_at z.index w.emitted) (sym k.2) ∙ own in
      elim (each-has Alone w.emitted (alone-drained t (record_of j t)) c k.1) [
        | inl q ↦ inl (same ∙ q ∙ ap accesses k.2)
        | inr p ↦
            inr (record {
              loc = p.loc;
              value = p.value;
              is = sym (ap (λ z. z.action) k.2) ∙ p.is;
              here = subst (Each (λ o. (o.strict ≡ false) × (o.place ≡ Cell p.loc))) (sym same) p.here;
            })
      ]

  each-at : (P : Operation → Type 0) (n : ℕ) (cs : List Commit) → Each P (ops cs) → Each P (operations_at n cs)
  each-at P n [] h = tt
  each-at P n (c ∷ cs) h =
      cond_both (c.entry.index == n) c.operations (operations_at n cs) (Each P) (λ e. each-front P c.operations (ops cs) h)
      (λ e. each-at P n cs (each-back P c.operations (ops cs) h))

  -- what stands in an entry's place is of the entry's thread
  pub placed-thread : (e : Entry) (o : Operation) → Has (placed j e) o → o.thread ≡ e.thread
  placed-thread e o m =
      let w = drained e.thread (record_of j e.thread) in
      each-has (λ o. o.thread ≡ e.thread) (placed j e)
      (each-at (λ o. o.thread ≡ e.thread) e.index w.emitted
      (each-weaker (IsOld e.thread w.next) (λ o. o.thread ≡ e.thread) (λ o q. q.0) (ops w.emitted)
      (each-front (IsOld e.thread w.next) (ops w.emitted) (ops w.pending) (kept-drained e.thread (record_of j e.thread)).old)))
      o m
