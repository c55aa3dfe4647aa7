-- What stands in an entry's place has the entry's own operations.
use Rattle.std.proofs.Common.{◌≡◌, ℕ, ◌<◌, ◌≤◌, ◌==◌, nat_lt, false, cond, List, [], ◌∷◌, length, is_some, Option, Some, None, refl, sym, ap, ◌∙◌, subst, eq-eqb, inl, inr, arith}
use Rattle.std.proofs.lemmas.Bool.{cond_both, cond-true}
use Rattle.block_layout.specs.declared.place.Loc.{Loc}
use Rattle.upc_values.specs.declared.scalar.Scalar.{Scalar}
use Rattle.upc_values.specs.declared.action.Action.TheVariants.{Read, Write, Print}
use Rattle.upc_values.specs.declared.record.Item.{Item}
use Rattle.upc_values.specs.declared.record.Item.TheVariants.{Did, Stall}
use Rattle.upc_values.specs.declared.journal.Entry.{Entry}
use Rattle.upc_values.specs.declared.journal.Journal.{Journal}
use Rattle.upc_values.specs.Operations.{Operation, accesses}
use Rattle.upc_values.specs.Orders.{record_of, operations_at, placed}
use Rattle.upc_values.specs.Drain.{Commit, commit_of, Walk, start, emptied, oldest_out, with_room, stored, passed, pending_value, changed, with_read, combined, put_pending, looked_up, stepped, walked_from, drained, entry_of}
use Rattle.upc_values.specs.Consistent.{FollowsBuffers}
use Rattle.upc_values.specs.Lists.{Each, Has}
use Rattle.upc_values.proofs.Membership.{has-left, has-right, has-filter, each-has, each-append}
use Rattle.upc_values.proofs.Numbering.{counted, numbered-drained}
use Rattle.upc_values.proofs.Placement.{agrees-of, drains-of}
use Rattle.race_report.proofs.Lists.{has-map}

-- a commit that the list has is found by its number
none-counted : (c : Commit) (cs : List Commit) → counted c.entry.index cs ≡ 0 → Has cs c → ⊥
none-counted c [] h m = m
none-counted c (x ∷ cs) h (inl q) =
    let t : cond {A = ℕ} (x.entry.index == c.entry.index) 1 0 ≡ 1 =
    cond-true (x.entry.index == c.entry.index) 1 0 (eq-eqb x.entry.index c.entry.index (ap (λ z. z.entry.index) q)) in
    omega arith
none-counted c (x ∷ cs) h (inr m) = none-counted c cs (omega arith) m

pub at-own : (c : Commit) (cs : List Commit) → counted c.entry.index cs ≤ 1 → Has cs c → operations_at c.entry.index cs ≡ c.operations
at-own c [] h m = absurd m
at-own c (x ∷ cs) h (inl q) =
    cond-true (x.entry.index == c.entry.index) x.operations (operations_at c.entry.index cs)
    (eq-eqb x.entry.index c.entry.index (ap (λ z. z.entry.index) q))
    ∙ ap (λ z. z.operations) q
at-own c (x ∷ cs) h (inr m) =
    cond_both (x.entry.index == c.entry.index) x.operations (operations_at c.entry.index cs) (λ z. z ≡ c.operations)
    (λ t.
    let one : cond {A = ℕ} (x.entry.index == c.entry.index) 1 0 ≡ 1 = cond-true (x.entry.index == c.entry.index) 1 0 t in
    absurd (none-counted c cs (omega arith) m))
    (λ t. at-own c cs (omega arith) m)

abbrev Covers : Commit → Type 0
Covers c = (o : Operation) → Has (accesses c.entry) o → Has c.operations o

record AllCover (w : Walk) : Type 0 where
  emitted : Each Covers w.emitted
  pending : Each Covers w.pending

cover-changed : (l : Loc) (f : Commit → Commit) → ((c : Commit) → Covers c → Covers (f c)) → (cs : List Commit) → Each Covers cs → Each Covers (changed l f cs)
cover-changed l f k [] h = tt
cover-changed l f k (c ∷ cs) h =
    cond_both (is_some (pending_value l cs)) (c ∷ changed l f cs) (f c ∷ cs) (Each Covers)
    (λ e. (h.0, cover-changed l f k cs h.1)) (λ e. (k c h.0, h.1))

cover-emptied : (w : Walk) → AllCover w → AllCover (emptied w)
cover-emptied w h = record { emitted = each-append Covers w.emitted w.pending h.emitted h.pending; pending = tt }

cover-passed : (e : Entry) (w : Walk) → AllCover w → AllCover (passed e w)
cover-passed e w h =
    record { emitted = each-append Covers w.emitted (commit_of e ∷ []) h.emitted ((λ o m. m), tt); pending = h.pending }

cover-stored : (e : Entry) (w : Walk) → AllCover w → AllCover (stored e w)
cover-stored e w h =
    record { emitted = h.emitted; pending = each-append Covers w.pending (commit_of e ∷ []) h.pending ((λ o m. m), tt) }

cover-oldest_out : (w : Walk) (cs : List Commit) → Each Covers cs → AllCover w → AllCover (oldest_out cs w)
cover-oldest_out w [] k h = h
cover-oldest_out w (c ∷ cs) k h =
    record { emitted = each-append Covers w.emitted (c ∷ []) h.emitted (k.0, tt); pending = k.1 }

cover-with_room : (w : Walk) → AllCover w → AllCover (with_room w)
cover-with_room w h =
    cond_both (nat_lt (length w.pending) 64) w (oldest_out w.pending w) AllCover (λ e. h)
    (λ e. cover-oldest_out w w.pending h.pending h)

cover-put : (l : Loc) (e : Entry) (o : Option Scalar) (w : Walk) → AllCover w → AllCover (put_pending l e o w)
cover-put l e None w h = cover-stored e (with_room w) (cover-with_room w h)
cover-put l e (Some v) w h =
    record {
      emitted = h.emitted;
      pending = cover-changed l (combined e) (λ c k o m. has-right c.operations (accesses e) o m) w.pending h.pending;
    }

cover-looked_up : (l : Loc) (e : Entry) (o : Option Scalar) (w : Walk) → AllCover w → AllCover (looked_up l e o w)
cover-looked_up l e None w h = cover-passed e w h
cover-looked_up l e (Some v) w h =
    record {
      emitted = h.emitted;
      pending = cover-changed l (with_read e) (λ c k o m. has-left c.operations (accesses e) o (k o m)) w.pending h.pending;
    }

cover-stepped : (t : ℕ) (w : Walk) (x : Item) → AllCover w → AllCover (stepped t w x)
cover-stepped t w Stall h = cover-emptied w h
cover-stepped t w (Did (Write false l v) r) h =
    cover-put l (entry_of t w.next (Write false l v) r) (pending_value l w.pending) w h
cover-stepped t w (Did (Read l false) r) h =
    cover-looked_up l (entry_of t w.next (Read l false) r) (pending_value l w.pending) w h
cover-stepped t w (Did (Print x) r) h = cover-passed (entry_of t w.next (Print x) r) w h
cover-stepped t w (Did a r) h = cover-passed (entry_of t w.next a r) (emptied w) (cover-emptied w h)

cover-walked_from : (t : ℕ) (w : Walk) (xs : List Item) → AllCover w → AllCover (walked_from t w xs)
cover-walked_from t w [] h = h
cover-walked_from t w (x ∷ xs) h = cover-walked_from t (stepped t w x) xs (cover-stepped t w x h)

cover-drained : (t : ℕ) (items : List Item) → AllCover (drained t items)
cover-drained t items =
    cover-emptied (walked_from t start items) (cover-walked_from t start items (record { emitted = tt; pending = tt }))

-- an entry's own operations are among those that stand in its place
pub placed-own : (j : Journal) → FollowsBuffers j → (e : Entry) → e.thread < j.threads → Has j.history e → (o : Operation) → Has (accesses e) o → Has (placed j e) o
placed-own j f e b m o h =
    let t = e.thread in
    let w = drained t (record_of j t) in
    let here = has-filter (λ x. x.thread == t) j.history e (eq-eqb t t refl) m in
    let k = has-map (λ c. c.entry) w.emitted e (subst (λ l. Has l e) (drains-of j t f b) here) in
    let c : Commit = k.0 in
    let once = (numbered-drained t (record_of j t) (agrees-of j t f b)).once c.entry.index in
    let own : operations_at c.entry.index w.emitted ≡ c.operations = at-own c w.emitted (omega arith) k.1 in
    let same : operations_at e.index w.emitted ≡ c.operations = ap (λ z. operations_at z.index w.emitted) (sym k.2) ∙ own in
    subst (λ l. Has l o) (sym same)
    (each-has Covers w.emitted (cover-drained t (record_of j t)).emitted c k.1 o (subst (λ z. Has (accesses z) o) (sym k.2) h))
