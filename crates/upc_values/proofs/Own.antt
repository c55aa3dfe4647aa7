-- The operations of one thread, as its walk places them: each once, in program order where two conflict.
use Rattle.std.proofs.Common.{◌≡◌, ◌≢◌, ℕ, ◌+◌, ◌*◌, ◌<◌, ◌≤◌, true, false, cond, List, [], ◌∷◌, ◌++◌, Option, Some, None, ◌⊎◌, refl, sym, ap, ◌∙◌, subst, append_assoc, append-nil, arith, inl, inr}
use Rattle.std.proofs.lemmas.Bool.{cond_both, false≢true}
use Rattle.block_layout.specs.declared.place.Loc.{Loc}
use Rattle.upc_values.specs.declared.scalar.Scalar.{Scalar}
use Rattle.upc_values.specs.declared.action.Action.TheVariants.{Read, Write, Print}
use Rattle.upc_values.specs.declared.record.Item.{Item}
use Rattle.upc_values.specs.declared.record.Item.TheVariants.{Did, Stall}
use Rattle.upc_values.specs.declared.journal.Entry.{Entry}
use Rattle.upc_values.specs.Operations.{Access, Nothing, Reads, Writes, Writes_sync, Reads_sync, Writes_and_reads_sync, access, Operation, operations_by, accesses_of}
use Rattle.upc_values.specs.Orders.{operations_from, rank}
use Rattle.upc_values.specs.Drain.{Walk, start, emptied, pending_value, put_pending, looked_up, stepped, walked_from, drained, entry_of}
use Rattle.upc_values.specs.Lists.{Each, Has, Pairwise}
use Rattle.upc_values.specs.Consistent.{conflict}
use Rattle.upc_values.proofs.Membership.{each-append, each-front, each-back, each-weaker, pairs-insert, has-left, has-right, has-cases}
use Rattle.upc_values.proofs.Numbering.{number-with_room}
use Rattle.upc_values.proofs.Growth.{ops, all_ops, Grows, IsPending, ops-emptied, item_ops, grows-stepped, pending-stepped}

-- two operations of one thread, of which a stands first
abbrev pub Placed : Operation → Operation → Type 0
Placed a b = (rank a ≢ rank b) × (conflict a b ≡ true → rank a < rank b)

abbrev pub IsNew : ℕ → ℕ → Operation → Type 0
IsNew t n o = (o.thread ≡ t) × (o.index ≡ n)

abbrev pub IsOld : ℕ → ℕ → Operation → Type 0
IsOld t n o = (o.thread ≡ t) × (o.index < n)

rank-low : (o : Operation) → cond {A = ℕ} o.write 0 1 ≤ 1
rank-low o = cond_both {A = ℕ} o.write 0 1 (λ z. z ≤ 1) (λ e. omega arith) (λ e. omega arith)

rank-below : (a b : Operation) → a.index < b.index → rank a < rank b
rank-below a b h = let k = rank-low a in omega arith

ranked : (a b : Operation) → rank a < rank b → Placed a b
ranked a b h = (λ e. omega arith, λ c. h)

new-accesses : (t n : ℕ) (x : Access) → Each (IsNew t n) (operations_by t n x)
new-accesses t n Nothing = tt
new-accesses t n (Reads l s v) = ((refl, refl), tt)
new-accesses t n (Writes l s v) = ((refl, refl), tt)
new-accesses t n Writes_sync = ((refl, refl), tt)
new-accesses t n Reads_sync = ((refl, refl), tt)
new-accesses t n Writes_and_reads_sync = ((refl, refl), ((refl, refl), tt))

fence-rank : (n : ℕ) → 2 * n + 0 < 2 * n + 1
fence-rank n = omega arith

placed-accesses : (t n : ℕ) (x : Access) → Pairwise Placed (operations_by t n x)
placed-accesses t n Nothing = tt
placed-accesses t n (Reads l s v) = (tt, tt)
placed-accesses t n (Writes l s v) = (tt, tt)
placed-accesses t n Writes_sync = (tt, tt)
placed-accesses t n Reads_sync = (tt, tt)
placed-accesses t n Writes_and_reads_sync =
    ((((λ e. let h = fence-rank n in omega arith), (λ c. fence-rank n)), tt), (tt, tt))

pub new-item : (t n : ℕ) (x : Item) → Each (IsNew t n) (item_ops t n x)
new-item t n Stall = tt
new-item t n (Did a r) = new-accesses t n (access a r)

placed-item : (t n : ℕ) (x : Item) → Pairwise Placed (item_ops t n x)
placed-item t n Stall = tt
placed-item t n (Did a r) = placed-accesses t n (access a r)

one-each : (t n : ℕ) (a : Operation) (back : List Operation) → IsNew t n a → Each (IsOld t n) back → Each (λ b. conflict a b ≡ false) back → Each (Placed a) back
one-each t n a [] m b h = tt
one-each t n a (x ∷ back) m b h =
    let less : rank x < rank a = rank-below x a (omega (arith, m.1, b.0.1)) in
    ((λ e. omega arith, λ c. absurd (false≢true (sym h.0 ∙ c))), one-each t n a back m b.1 h.1)

both-each : (t n : ℕ) (more back : List Operation) → Each (IsNew t n) more → Each (IsOld t n) back → Each (λ a. Each (λ b. conflict a b ≡ false) back) more → Each (λ a. Each (Placed a) back) more
both-each t n [] back m b h = tt
both-each t n (a ∷ more) back m b h = (one-each t n a back m.0 b h.0, both-each t n more back m.1 b h.1)

-- what a step's growth keeps
grown-pairs : (t n : ℕ) (old more new : List Operation) → Grows old more new → Each (IsOld t n) old → Each (IsNew t n) more → Pairwise Placed more → Pairwise Placed old → Pairwise Placed new
grown-pairs t n old more new g o m k h =
    let o' = subst (Each (IsOld t n)) g.was o in
    let front = each-front (IsOld t n) g.front g.back o' in
    let back = each-back (IsOld t n) g.front g.back o' in
    subst (Pairwise Placed) (sym g.is)
    (pairs-insert Placed g.front more g.back (subst (Pairwise Placed) g.was h) k
    (each-weaker (IsOld t n) (λ a. Each (Placed a) more)
    (λ a q. each-weaker (IsNew t n) (Placed a) (λ b r. ranked a b (rank-below a b (omega (arith, q.1, r.1)))) more m) g.front front)
    (both-each t n more g.back m back g.apart))

grown-each : (P : Operation → Type 0) (old more new : List Operation) → Grows old more new → Each P old → Each P more → Each P new
grown-each P old more new g o m =
    let o' = subst (Each P) g.was o in
    subst (Each P) (sym g.is)
    (each-append P g.front (more ++ g.back) (each-front P g.front g.back o')
    (each-append P more g.back m (each-back P g.front g.back o')))

grown-has : (old more new : List Operation) → Grows old more new → (o : Operation) → Has new o → Has (old ++ more) o
grown-has old more new g o h =
    let k = subst (λ l. Has l o) g.is h in
    let there : Has g.front o ⊎ Has g.back o → Has old o =
    λ q. subst (λ l. Has l o) (sym g.was) (elim q [ inl f ↦ has-left g.front g.back o f | inr b ↦ has-right g.front g.back o b ]) in
    elim (has-cases g.front (more ++ g.back) o k) [
      | inl f ↦ has-left old more o (there (inl f))
      | inr r ↦ elim (has-cases more g.back o r) [ inl m ↦ has-right old more o m | inr b ↦ has-left old more o (there (inr b)) ]
    ]

has-grown : (old more new : List Operation) → Grows old more new → (o : Operation) → Has (old ++ more) o → Has new o
has-grown old more new g o h =
    subst (λ l. Has l o) (sym g.is)
    (elim (has-cases old more o h) [
      | inl k ↦ elim (has-cases g.front g.back o (subst (λ l. Has l o) g.was k)) [
        | inl f ↦ has-left g.front (more ++ g.back) o f
        | inr b ↦ has-right g.front (more ++ g.back) o (has-right more g.back o b)
      ]
      | inr m ↦ has-right g.front (more ++ g.back) o (has-left more g.back o m)
    ])

-- what holds of a walk that has performed these operations
pub record Kept (t : ℕ) (w : Walk) (performed : List Operation) : Type 0 where
  pub pairs : Pairwise Placed (all_ops w)
  pub old : Each (IsOld t w.next) (all_ops w)
  pub has : (o : Operation) → Has performed o → Has (all_ops w) o
  pub only : (o : Operation) → Has (all_ops w) o → Has performed o
  pub pending : Each IsPending w.pending

-- how many actions an item is
abbrev size : Item → ℕ
size Stall = 0
size (Did a r) = 1

number-looked_up : (l : Loc) (e : Entry) (o : Option Scalar) (w : Walk) → (looked_up l e o w).next ≡ w.next + 1
number-looked_up l e None w = refl
number-looked_up l e (Some v) w = refl

number-put : (l : Loc) (e : Entry) (o : Option Scalar) (w : Walk) → (put_pending l e o w).next ≡ w.next + 1
number-put l e None w = ap (λ n. n + 1) (number-with_room w)
number-put l e (Some v) w = refl

number-stepped : (t : ℕ) (w : Walk) (x : Item) → (stepped t w x).next ≡ w.next + size x
number-stepped t w Stall = omega arith
number-stepped t w (Did (Write false l v) r) =
    number-put l (entry_of t w.next (Write false l v) r) (pending_value l w.pending) w
number-stepped t w (Did (Read l false) r) =
    number-looked_up l (entry_of t w.next (Read l false) r) (pending_value l w.pending) w
number-stepped t w (Did (Print x) r) = refl
number-stepped t w (Did x r) = refl

new-old : (t n m : ℕ) (x : Item) → m ≡ n + size x → Each (IsOld t m) (item_ops t n x)
new-old t n m Stall h = tt
new-old t n m (Did a r) h =
    each-weaker (IsNew t n) (IsOld t m) (λ o q. (q.0, omega (arith, q.1))) (accesses_of t n a r) (new-accesses t n (access a r))

old-old : (t n m : ℕ) (os : List Operation) → n ≤ m → Each (IsOld t n) os → Each (IsOld t m) os
old-old t n m os h k = each-weaker (IsOld t n) (IsOld t m) (λ o q. (q.0, omega (arith, q.1))) os k

kept-stepped : (t : ℕ) (w : Walk) (x : Item) (performed : List Operation) → Kept t w performed → Kept t (stepped t w x) (performed ++ item_ops t w.next x)
kept-stepped t w x performed k =
    let more = item_ops t w.next x in
    let new = all_ops (stepped t w x) in
    let g = grows-stepped t w x k.pending in
    let num = number-stepped t w x in
    record {
      pairs = grown-pairs t w.next (all_ops w) more new g k.old (new-item t w.next x) (placed-item t w.next x) k.pairs;
      old =
          grown-each (IsOld t (stepped t w x).next) (all_ops w) more new g
          (old-old t w.next (stepped t w x).next (all_ops w) (omega arith) k.old)
          (new-old t w.next (stepped t w x).next x num);
      has = λ o h.
          has-grown (all_ops w) more new g o
          (elim (has-cases performed more o h) [ inl p ↦ has-left (all_ops w) more o (k.has o p) | inr m ↦ has-right (all_ops w) more o m ]);
      only = λ o h.
          elim (has-cases (all_ops w) more o (grown-has (all_ops w) more new g o h)) [ inl p ↦ has-left performed more o (k.only o p) | inr m ↦ has-right performed more o m ];
      pending = pending-stepped t w x k.pending;
    }

operations-item : (t n m : ℕ) (x : Item) (xs : List Item) → m ≡ n + size x → operations_from t n (x ∷ xs) ≡ item_ops t n x ++ operations_from t m xs
operations-item t n m Stall xs h = ap (λ k. operations_from t k xs) (let e : n ≡ m = omega arith in e)
operations-item t n m (Did a r) xs h = ap (λ k. accesses_of t n a r ++ operations_from t k xs) (sym h)

kept-walked_from : (t : ℕ) (w : Walk) (xs : List Item) (performed : List Operation) → Kept t w performed → Kept t (walked_from t w xs) (performed ++ operations_from t w.next xs)
kept-walked_from t w [] performed k = subst (Kept t w) (sym (append-nil performed)) k
kept-walked_from t w (x ∷ xs) performed k =
    let n = (stepped t w x).next in
    subst (Kept t (walked_from t (stepped t w x) xs))
    (append_assoc performed (item_ops t w.next x) (operations_from t n xs)
    ∙ ap (λ z. performed ++ z) (sym (operations-item t w.next n x xs (number-stepped t w x))))
    (kept-walked_from t (stepped t w x) xs (performed ++ item_ops t w.next x) (kept-stepped t w x performed k))

kept-emptied : (t : ℕ) (w : Walk) (performed : List Operation) → Kept t w performed → Kept t (emptied w) performed
kept-emptied t w performed k =
    let e = sym (ops-emptied w) in
    record {
      pairs = subst (Pairwise Placed) e k.pairs;
      old = subst (Each (IsOld t w.next)) e k.old;
      has = λ o h. subst (λ l. Has l o) e (k.has o h);
      only = λ o h. k.only o (subst (λ l. Has l o) (ops-emptied w) h);
      pending = tt;
    }

pub kept-drained : (t : ℕ) (items : List Item) → Kept t (drained t items) (operations_from t 0 items)
kept-drained t items =
    kept-emptied t (walked_from t start items) (operations_from t 0 items)
    (kept-walked_from t start items [] (record { pairs = tt; old = tt; has = λ o h. h; only = λ o h. h; pending = tt }))

-- a thread's operations in the order of its commits
abbrev pub own : ℕ → List Item → List Operation
own t items = ops (drained t items).emitted
