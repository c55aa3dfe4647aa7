-- The orders of a journal are consistent.
use Rattle.std.proofs.Common.{◌≡◌, ◌≢◌, ℕ, ◌*◌, ◌+◌, ◌<◌, ◌≤◌, ◌==◌, ◌&&◌, ◌||◌, Bool, true, false, cond, List, [], ◌∷◌, ◌++◌, map, filter, flat_map, Option, Some, None, refl, sym, ap, ◌∙◌, subst, append_assoc, append-nil, eq-eqb, eqb-true, arith, inl, inr}
use Rattle.std.proofs.lemmas.Bool.{cond_both, false≢true, cond-true, cases_order}
use Rattle.block_layout.specs.declared.place.Loc.{Loc}
use Rattle.upc_values.specs.declared.scalar.Scalar.{Scalar}
use Rattle.upc_values.specs.declared.action.Action.{Action}
use Rattle.upc_values.specs.declared.action.Action.TheVariants.{Read, Write}
use Rattle.upc_values.specs.declared.action.Reply.{Reply}
use Rattle.upc_values.specs.declared.action.Reply.TheVariants.{Value}
use Rattle.upc_values.specs.Scalars.{zero, value_or}
use Rattle.upc_values.specs.Drain.{Commit, drained, or_else, last_written}
use Rattle.upc_values.specs.Consistent.{begins}
use Rattle.upc_values.proofs.Beginnings.{initial-stays}
use Rattle.upc_values.specs.declared.journal.Entry.{Entry}
use Rattle.upc_values.specs.declared.journal.Journal.{Journal}
use Rattle.upc_values.specs.Orders.{record_of, operations_at, placed, global_order, thread_order, is_shown, operations_of, IsOf, rank, name_of, StrictOrder, As_placed, As_written, Through}
use Rattle.upc_values.specs.Operations.{Operation}
use Rattle.upc_values.specs.Openings.{Opening, initial_of}
use Rattle.upc_values.specs.History.{objects, reply, value_reply, IsLegalFrom, EachBelow}
use Rattle.upc_values.specs.Consistent.{FollowsBuffers, same_place, conflict, KeepsProgram, IsConsistent, AreConsistent}
use Rattle.upc_values.specs.Lists.{Each, Has, Precedes, Pairwise}
use Rattle.upc_values.proofs.Membership.{precedes-has, has-filter, filter-has, each-has, each-front, each-back, each-weaker, has-cases, pairs-weaker, pairs-at, pairs-from, precedes-total, Distinct, precedes-strict, precedes-trans, precedes-filter, filter-precedes, distinct-classes, filter-flat, flat-agree}
use Rattle.upc_values.proofs.Numbering.{counted, numbered-drained}
use Rattle.upc_values.proofs.Growth.{ops, all_ops}
use Rattle.upc_values.proofs.Own.{Placed, IsOld, Kept, kept-drained, own}
use Rattle.upc_values.proofs.Placement.{agrees-of, drains-of, reads-right}
use Rattle.upc_values.proofs.Values.{IsAnswered, AreAnsweredFrom}

each-at : (P : Operation → Type 0) (n : ℕ) (cs : List Commit) → Each P (ops cs) → Each P (operations_at n cs)
each-at P n [] h = tt
each-at P n (c ∷ cs) h =
    cond_both (c.entry.index == n) c.operations (operations_at n cs) (Each P) (λ e. each-front P c.operations (ops cs) h)
    (λ e. each-at P n cs (each-back P c.operations (ops cs) h))

-- a commit that the list has is found by its number
none-counted : (c : Commit) (cs : List Commit) → counted c.entry.index cs ≡ 0 → Has cs c → ⊥
none-counted c [] h m = m
none-counted c (x ∷ cs) h (inl q) =
    let t : cond {A = ℕ} (x.entry.index == c.entry.index) 1 0 ≡ 1 =
    cond-true (x.entry.index == c.entry.index) 1 0 (eq-eqb x.entry.index c.entry.index (ap (λ z. z.entry.index) q)) in
    omega arith
none-counted c (x ∷ cs) h (inr m) = none-counted c cs (omega arith) m

at-own : (c : Commit) (cs : List Commit) → counted c.entry.index cs ≤ 1 → Has cs c → operations_at c.entry.index cs ≡ c.operations
at-own c [] h m = absurd m
at-own c (x ∷ cs) h (inl q) =
    cond-true (x.entry.index == c.entry.index) x.operations (operations_at c.entry.index cs)
    (eq-eqb x.entry.index c.entry.index (ap (λ z. z.entry.index) q))
    ∙ ap (λ z. z.operations) q
at-own c (x ∷ cs) h (inr m) =
    cond_both (x.entry.index == c.entry.index) x.operations (operations_at c.entry.index cs) (λ z. z ≡ c.operations)
    (λ t.
    let one : cond {A = ℕ} (x.entry.index == c.entry.index) 1 0 ≡ 1 = cond-true (x.entry.index == c.entry.index) 1 0 t in
    absurd (none-counted c cs (omega arith) m))
    (λ t. at-own c cs (omega arith) m)

flat-own : (all : List Commit) → ((n : ℕ) → counted n all ≤ 1) → (cs : List Commit) → ((c : Commit) → Has cs c → Has all c) → flat_map (λ e. operations_at e.index all) (map (λ c. c.entry) cs) ≡ ops cs
flat-own all once [] h = refl
flat-own all once (c ∷ cs) h =
    ap (λ z. z ++ flat_map (λ e. operations_at e.index all) (map (λ x. x.entry) cs)) (at-own c all (once c.entry.index) (h c (inl refl)))
    ∙ ap (λ z. c.operations ++ z) (flat-own all once cs (λ x m. h x (inr m)))

pub or_turn : (x y : Bool) → (x || y) ≡ true → (y || x) ≡ true
or_turn true true h = refl
or_turn true false h = refl
or_turn false true h = refl
or_turn false false h = absurd (false≢true h)

module _ (j : Journal) (f : FollowsBuffers j) where
  kept : (t : ℕ) → Kept t (drained t (record_of j t)) (operations_of j t)
  kept t = kept-drained t (record_of j t)

  own-is : (t : ℕ) → all_ops (drained t (record_of j t)) ≡ own t (record_of j t)
  own-is t = append-nil (own t (record_of j t))

  placed-thread : (e : Entry) → Each (λ o. o.thread ≡ e.thread) (placed j e)
  placed-thread e =
      let w = drained e.thread (record_of j e.thread) in
      each-at (λ o. o.thread ≡ e.thread) e.index w.emitted
      (each-weaker (IsOld e.thread w.next) (λ o. o.thread ≡ e.thread) (λ o q. q.0) (ops w.emitted)
      (each-front (IsOld e.thread w.next) (ops w.emitted) (ops w.pending) (kept e.thread).old))

  all-entries : (t : ℕ) (es : List Entry) → Each (λ e. Each (λ o. (o.thread == t) ≡ (e.thread == t)) (placed j e)) es
  all-entries t [] = tt
  all-entries t (e ∷ es) = (
    each-weaker (λ o. o.thread ≡ e.thread) (λ o. (o.thread == t) ≡ (e.thread == t)) (λ o q. ap (λ z. z == t) q) (placed j e)
        (placed-thread e),
    all-entries t es,
  )

  -- the global order has a thread's operations in the order of its commits
  global-own : (t : ℕ) → t < j.threads → filter (λ o. o.thread == t) (global_order j) ≡ own t (record_of j t)
  global-own t h =
      let w = drained t (record_of j t) in
      let n = numbered-drained t (record_of j t) (agrees-of j t f h) in
      filter-flat (placed j) (λ o. o.thread == t) (λ e. e.thread == t) j.history (all-entries t j.history)
      ∙ flat-agree (placed j) (λ e. operations_at e.index w.emitted) (λ e. e.thread == t)
      (λ e q. ap (λ s. operations_at e.index (drained s (record_of j s)).emitted) (eqb-true e.thread t q)) j.history
      ∙ ap (flat_map (λ e. operations_at e.index w.emitted)) (drains-of j t f h)
      ∙ flat-own w.emitted (λ k. let b = n.once k in omega arith) w.emitted (λ c m. m)

  below-placed : (es : List Entry) → EachBelow (j.threads) es → (o : Operation) → Has (flat_map (placed j) es) o → o.thread < j.threads
  below-placed [] b o h = absurd h
  below-placed (e ∷ es) b o h =
      elim (has-cases (placed j e) (flat_map (placed j) es) o h) [
        | inl m ↦ subst (λ n. n < j.threads) (sym (each-has (λ x. x.thread ≡ e.thread) (placed j e) (placed-thread e) o m)) b.0
        | inr m ↦ below-placed es b.1 o m
      ]

  own-pairs : (t : ℕ) → Pairwise Placed (own t (record_of j t))
  own-pairs t = subst (Pairwise Placed) (own-is t) (kept t).pairs

  pub global-only : (o : Operation) → Has (global_order j) o → IsOf j o
  global-only o h =
      let b = below-placed j.history f.below o h in
      let m = has-filter (λ x. x.thread == o.thread) (global_order j) o (eq-eqb o.thread o.thread refl) h in
      let k = subst (λ l. Has l o) (global-own o.thread b ∙ sym (own-is o.thread)) m in
      (b, (kept o.thread).only o k)

  pub global-has : (o : Operation) → IsOf j o → Has (global_order j) o
  global-has o q =
      let k = subst (λ l. Has l o) (own-is o.thread ∙ sym (global-own o.thread q.0)) ((kept o.thread).has o q.1) in
      (filter-has (λ x. x.thread == o.thread) (global_order j) o k).0

  pub global-distinct : Distinct (global_order j)
  global-distinct =
      distinct-classes (λ o n. o.thread == n) (λ o. o.thread) (λ o. eq-eqb o.thread o.thread refl) (global_order j)
      (λ a m.
      subst Distinct (sym (global-own a.thread (below-placed j.history f.below a m)))
      (pairs-weaker Placed (λ x y. x ≢ y) (λ x y p e. p.0 (ap rank e)) (own a.thread (record_of j a.thread)) (own-pairs a.thread)))

  -- two operations of one thread in the global order
  pub global-placed : (t : ℕ) (a b : Operation) → t < j.threads → a.thread ≡ t → b.thread ≡ t → Precedes (global_order j) a b → Placed a b
  global-placed t a b h ea eb p =
      pairs-at Placed (own t (record_of j t)) (own-pairs t) a b
      (subst (λ l. Precedes l a b) (global-own t h)
      (precedes-filter (λ o. o.thread == t) (global_order j) a b (eq-eqb a.thread t ea) (eq-eqb b.thread t eb) p))

  or_swap : (x y z : Bool) → (x || y) ≡ true → ((y || x) || z) ≡ true
  or_swap true true z h = refl
  or_swap true false z h = refl
  or_swap false true z h = refl
  or_swap false false z h = absurd (false≢true h)

  pub written-precedes : (a b : Operation) → IsOf j a → IsOf j b → a.thread ≡ b.thread → (a.strict || b.strict) ≡ true → rank a < rank b → Precedes (global_order j) a b
  written-precedes a b x y e s h =
      let n : a ≢ b = λ q. let r = ap rank q in omega arith in
      elim (precedes-total (global_order j) a b n (global-has a x) (global-has b y)) [
        | inl p ↦ p
        | inr p ↦
            let q = global-placed a.thread b a x.0 (sym e) refl p in
            let c : conflict b a ≡ true = or_swap a.strict b.strict (same_place b.place a.place && (b.write || a.write)) s in
            let r : rank b < rank a = q.1 c in absurd (omega arith)
      ]

  -- the strict order is within the global order
  strict-precedes : (a b : Operation) → StrictOrder j a b → Precedes (global_order j) a b
  strict-precedes _ _ (As_placed a b s t p) = p
  strict-precedes _ _ (As_written a b x y e s h) = written-precedes a b x y e s h
  strict-precedes _ _ (Through a b c p q) =
      precedes-trans (global_order j) global-distinct a b c (strict-precedes a b p) (strict-precedes b c q)

  names-differ : (a b : Operation) → Precedes (global_order j) a b → name_of a ≡ name_of b → ⊥
  names-differ a b p e =
      let x = global-only a (precedes-has (global_order j) a b p).0 in
      (global-placed a.thread a b x.0 refl (sym (ap (λ z. z.thread) e)) p).0
      (ap (λ z. 2 * z.index + cond {A = ℕ} z.write 0 1) e)

  ranks-differ : (a b : Operation) → IsOf j a → IsOf j b → (a ≢ b) → a.thread ≡ b.thread → rank a ≡ rank b → ⊥
  ranks-differ a b x y n e r =
      elim (precedes-total (global_order j) a b n (global-has a x) (global-has b y)) [
        | inl p ↦ (global-placed a.thread a b x.0 refl (sym e) p).0 r
        | inr p ↦ (global-placed a.thread b a x.0 (sym e) refl p).0 (sym r)
      ]

  pub consistent : (initial : Loc → Scalar) → AreAnsweredFrom initial [] j.history → IsConsistent initial (j.threads) (IsOf j) (StrictOrder j) (thread_order j)
  consistent initial legal =
      record {
        irreflexive = λ a s. precedes-strict (global_order j) global-distinct a (strict-precedes a a s);
        transitive = λ a b c p q. Through a b c p q;
        total = λ t h.
            record {
              has = λ o q. has-filter (is_shown t) (global_order j) o q.1 (global-has o q.0);
              only = λ o m. let k = filter-has (is_shown t) (global_order j) o m in (global-only o k.0, k.1);
              once =
                  pairs-from (λ a b. name_of a ≢ name_of b) (thread_order j t)
                  (λ a b p e. names-differ a b (filter-precedes (is_shown t) (global_order j) a b p) e);
            };
        relates_strict = λ a b x y n s t.
            elim (precedes-total (global_order j) a b n (global-has a x) (global-has b y)) [
              | inl p ↦ inl (As_placed a b s t p)
              | inr p ↦ inr (As_placed b a t s p)
            ];
        relates_program = λ a b x y n e s.
            elim (cases_order (rank a) (rank b)) [
              | inl r ↦ absurd (ranks-differ a b x y n e r)
              | inr q ↦ elim q [
                | inl h ↦ inl (As_written a b x y e s h)
                | inr h ↦ inr (As_written b a y x (sym e) (or_turn a.strict b.strict s) h)
              ]
            ];
        values = λ t h. reads-right j initial t f legal;
        program = λ t h.
            pairs-from (KeepsProgram t) (thread_order j t)
            (λ a b p ea eb c. (global-placed t a b h ea eb (filter-precedes (is_shown t) (global_order j) a b p)).1 c);
        agrees = λ t h.
            pairs-from (λ a b. StrictOrder j b a → ⊥) (thread_order j t)
            (λ a b p s.
            precedes-strict (global_order j) global-distinct a
            (precedes-trans (global_order j) global-distinct a b a (filter-precedes (is_shown t) (global_order j) a b p) (strict-precedes b a s)));
      }

-- a lawful reply gives a read its value, and a write Done
read-answered : (o : Opening) (before rest : List Entry) (l : Loc) (r : Reply) (w i : Option Scalar) → last_written l before ≡ w → initial_of o (objects o before) l ≡ i → value_reply (or_else w i) ≡ Some r → r ≡ Value (value_or (last_written l before) (begins o (before ++ rest) l))
read-answered o before rest l r (Some v) i e f h =
    let k : Value v ≡ r = cc in
    sym k ∙ ap (λ z. Value (value_or z (begins o (before ++ rest) l))) (sym e)
read-answered o before rest l r None (Some v) e f h =
    let k : Value v ≡ r = cc in
    let m = initial-stays o before rest l v f in
    sym k ∙ ap (λ z. Value (value_or z zero)) (sym m) ∙ ap (λ z. Value (value_or z (begins o (before ++ rest) l))) (sym e)
read-answered o before rest l r None None e f h = cc

answered : (o : Opening) (before rest : List Entry) (t : ℕ) (a : Action) (r : Reply) → reply o before t a ≡ Some r → IsAnswered (begins o (before ++ rest)) before a r
answered o before rest t (Read l s) r h =
    read-answered o before rest l r (last_written l before) (initial_of o (objects o before) l) refl refl h
answered o before rest t (Write s l v) r h = cc
answered o before rest t a r h = tt

pub all-answered : (o : Opening) (before es whole : List Entry) → before ++ es ≡ whole → IsLegalFrom o before es → AreAnsweredFrom (begins o whole) before es
all-answered o before [] whole q h = tt
all-answered o before (e ∷ es) whole q h = (
  subst (λ z. IsAnswered (begins o z) before e.action e.reply) q (answered o before (e ∷ es) e.thread e.action e.reply h.0),
  all-answered o (before ++ e ∷ []) es whole (append_assoc before (e ∷ []) es ∙ q) h.1,
)

pub all-consistent : AreConsistent
all-consistent j o f legal = consistent j f (begins o j.history) (all-answered o [] j.history j.history refl legal)
