-- One event, as one thread's list sees it.
use Rattle.std.proofs.Common.{◌≡◌, ◌≢◌, ℕ, ◌+◌, ◌<◌, ◌≤◌, ◌==◌, ◌&&◌, ◌||◌, true, false, not, cond, List, [], ◌∷◌, ◌++◌, map, Option, Some, None, refl, sym, ap, ◌∙◌, subst, inl, inr, arith, append-nil, eq-eqb, eqb-true, ne_eqb, true≢false}
use Rattle.std.proofs.lemmas.Bool.{false≢true, cond-true, cond-false, cond_both, cases_eq, and_from, or_left, or_right, or_from, and_left, and_right}
use Rattle.block_layout.specs.declared.place.Loc.{Loc}
use Rattle.upc_values.specs.declared.scalar.Scalar.{Scalar}
use Rattle.upc_values.specs.Scalars.{value_or}
use Rattle.upc_values.specs.Drain.{or_else}
use Rattle.upc_values.specs.Lists.{Has, Each, Pairwise}
use Rattle.upc_values.specs.Operations.{Operation, Cell, Sync, read_at, write_at}
use Rattle.upc_values.specs.Orders.{is_shown, rank}
use Rattle.upc_values.specs.Consistent.{same_place, last_write, ReadsLastFrom}
use Rattle.upc_values.proofs.Membership.{has-cases}
use Rattle.upc_values.proofs.Values.{last_write-append}
use Rattle.replica_space.specs.declared.message.Stamp.{Stamp}
use Rattle.replica_space.specs.declared.message.Message.{Message}
use Rattle.replica_space.specs.Spaces.{Space, greatest, greater, with_message, with_mail, with_sent, met, sent, spread, received}
use Rattle.replica_space.specs.Runs.{NoneWaits}
use Rattle.replica_space.specs.ReplicaOrders.{Placed, placed, write_of, is_write_of, with_write, operations}
use Rattle.replica_space_lists.proofs.Stamps.{greatest-most, greater-left, greater-right}
use Rattle.replica_space_lists.proofs.Putting.{has-operations, Puts}
use Rattle.replica_space_lists.proofs.Splitting.{Splits, IsRelaxed, operations-append, splits-hidden, splits-relaxed, splits-sync, splits-put, puts}
use Rattle.replica_space_lists.proofs.Naming.{Names, names-hidden, names-sent, names-append, names-put}
use Rattle.replica_space_lists.proofs.Copying.{Copied, IsZero, written, copied-same, copied-quiet, copied-write, copied-put}

-- what holds of thread t and its list
pub record Thread (n t : ℕ) (initial : Loc → Scalar) (ops : List Operation) (next : ℕ → ℕ) (s : Space) (list : List Placed) : Type 0 where
  pub base : ℕ
  pub splits : Splits base ops list
  pub names : Names n t base initial ops next (s.mail t) list
  pub copied : Copied n t base s list

-- ---- operations of one action, with its stamp

pub operations-placed : (k : Stamp) (os : List Operation) → operations (map (placed k) os) ≡ os
operations-placed k [] = refl
operations-placed k (o ∷ os) = ap (λ l. o ∷ l) (operations-placed k os)

has-placed : (k : Stamp) (os : List Operation) (x : Placed) → Has (map (placed k) os) x → Has os x.operation
has-placed k os x h = subst (λ l. Has l x.operation) (operations-placed k os) (has-operations (map (placed k) os) x h)

each-placed : (k : Stamp) (os : List Operation) (a : Operation) → Each (λ b. rank a < rank b) os → Each (λ b. rank a < rank b.operation) (map (placed k) os)
each-placed k [] a h = tt
each-placed k (o ∷ os) a h = (h.0, each-placed k os a h.1)

ranks-placed : (k : Stamp) (os : List Operation) → Pairwise (λ a b. rank a < rank b) os → Pairwise (λ a b. rank a.operation < rank b.operation) (map (placed k) os)
ranks-placed k [] h = tt
ranks-placed k (o ∷ os) h = (each-placed k os o h.0, ranks-placed k os h.1)

-- the strict operations of a synchronising action that writes no location
pub record Strict (v i : ℕ) (os : List Operation) : Type 0 where
  pub thread : (o : Operation) → Has os o → o.thread ≡ v
  pub index : (o : Operation) → Has os o → o.index ≡ i
  pub strict : (o : Operation) → Has os o → o.strict ≡ true
  pub no_cell : (o : Operation) (l : Loc) → Has os o → (o.write && same_place o.place (Cell l)) ≡ false
  pub ranks : Pairwise (λ a b. rank a < rank b) os
  pub zeros : (o : Option Scalar) → IsZero o → IsZero (or_else (last_write Sync os) o)

quiet-placed : (k : Stamp) (v i : ℕ) (os : List Operation) → Strict v i os → (l : Loc) (x : Placed) → Has (map (placed k) os) x → is_write_of l x ≡ false
quiet-placed k v i os st l x w = st.no_cell x.operation l (has-placed k os x w)

-- a relaxed read in a list
abbrev pub read_placed : ℕ → ℕ → Loc → Scalar → Stamp → Placed
read_placed v i l w k = placed k (read_at v i (Cell l) false w)

-- the message of a write
abbrev pub message : ℕ → Loc → Scalar → Stamp → Message
message i l w k = record { index = i; loc = l; value = w; stamp = k }

-- the operation of a relaxed write
abbrev pub sent_operation : Message → List Operation
sent_operation m = (write_of m).operation ∷ []

-- a relaxed write leaves the implied accesses alone
sync-put : (m : Message) (list new : List Placed) → Puts m IsRelaxed list new → last_write Sync (operations new) ≡ last_write Sync (operations list)
sync-put m list new p =
    ap (λ l. last_write Sync (operations l)) p.is ∙ ap (last_write Sync) (operations-append p.before (write_of m ∷ p.after))
    ∙ last_write-append Sync (operations p.before) (operations (write_of m ∷ p.after))
    ∙ ap (λ o. or_else o (last_write Sync (operations p.before))) (none-else (last_write Sync (operations p.after)))
    ∙ sym (ap (λ l. last_write Sync (operations l)) p.was ∙ ap (last_write Sync) (operations-append p.before p.after) ∙ last_write-append Sync (operations p.before) (operations p.after))
  where
    none-else : (o : Option Scalar) → or_else o None ≡ o
    none-else (Some v) = refl
    none-else None = refl

-- ---- what is the same for all events

module _ (n t : ℕ) (initial : Loc → Scalar) (ops : List Operation) (next then : ℕ → ℕ) (s : Space) (list : List Placed)
    (h : Thread n t initial ops next s list) (grows : (u : ℕ) → next u ≤ then u) (lt : t < n) where
  abbrev After : List Operation → Space → List Placed → Type 0
  After more space new = Thread n t initial (ops ++ more) then space new

  -- what t does not see
  pub thread-hidden : (more : List Operation) (space : Space) → Each (λ o. is_shown t o ≡ false) more → Each (λ o. o.strict ≡ false) more
      → ((u : ℕ) → u < n → s.clock u ≤ space.clock u) → ((l : Loc) → space.copy t l ≡ s.copy t l) → ((u : ℕ) → u < n → space.mail t u ≡ s.mail t u)
      → After more space list
  thread-hidden more space hidden relaxed clocks same mails = record {
    base = h.base;
    splits = splits-hidden h.base ops list h.splits more relaxed;
    names = names-hidden n t h.base initial ops next (s.mail t) list h.names then (space.mail t) grows more hidden mails;
    copied = copied-same n t h.base s list h.copied h.base space (λ u lu. let a = h.copied.floor u lu in let b = clocks u lu in omega arith) (clocks t lt) same;
  }

  -- what a write's mail is to its own thread
  sent-to-own : (m : Message) (u : ℕ) → m.stamp.thread ≡ t → with_sent m t u (s.mail t u) ≡ s.mail t u
  sent-to-own m u e =
      cond-false ((u == m.stamp.thread) && not (t == u)) (s.mail t u ++ m ∷ []) (s.mail t u)
      (elim (cases_eq u t) [
        | inl q ↦ and_right (u == m.stamp.thread) (not (t == u)) (ap not (eq-eqb t u (sym q)))
        | inr ne ↦ and_left (u == m.stamp.thread) (not (t == u)) (ne_eqb u m.stamp.thread (λ q. ne (q ∙ e)))
      ])

  module _ (v : ℕ) (lv : v < n) (more : next v < then v) where
    -- ---- relaxed operations of t itself
    thread-own : t ≡ v → (new : List Placed) (space : Space) → Each IsRelaxed new
        → ((x : Placed) → Has new x → (x.operation.thread ≡ v) × (x.operation.index ≡ next v))
        → Pairwise (λ a b. rank a.operation < rank b.operation) new → ((u : ℕ) → u < n → space.mail t u ≡ s.mail t u)
        → ReadsLastFrom initial (operations list) (operations new) → Copied n t h.base space (list ++ new)
        → After (operations new) space (list ++ new)
    thread-own own new space relaxed by ranks mails right copied = record {
      base = h.base;
      splits = splits-relaxed h.base ops list h.splits new relaxed;
      names =
          names-append n t h.base initial ops next (s.mail t) list h.names then (space.mail t) grows h.base v new more
          (λ x w. let k = by x w in (k.0, k.1, or_left (x.operation.thread == t) (x.operation.write || x.operation.strict) (eq-eqb x.operation.thread t (k.0 ∙ sym own))))
          ranks mails (λ m lu w. (h.names.mailed v m lu w).other (sym own)) (λ u m lu w. (h.names.mailed u m lu w).above) right;
      copied = copied;
    }

    -- a relaxed read by v
    pub thread-read : (i : ℕ) → i ≡ next v → (l : Loc) (w : Scalar) (k : Stamp) → (t ≡ v → w ≡ value_or (last_write (Cell l) (operations list)) (initial l))
        → After (read_at v i (Cell l) false w ∷ []) s (cond (t == v) (list ++ placed k (read_at v i (Cell l) false w) ∷ []) list)
    thread-read i q l w k right =
        elim (cases_eq t v) [
          | inl e ↦
              subst (After (read_at v i (Cell l) false w ∷ []) s) (sym (cond-true (t == v) (list ++ read_placed v i l w k ∷ []) list (eq-eqb t v e)))
              (thread-own e (read_placed v i l w k ∷ []) s (refl, tt)
              (λ x o. elim o [ inl p ↦ subst (λ (z : Placed). (z.operation.thread ≡ v) × (z.operation.index ≡ next v)) p (refl, q) | inr z ↦ absurd z ])
              (tt, tt) (λ u lu. refl) (λ z. right e, tt)
              (copied-quiet n t h.base s list h.copied h.base s h.copied.floor (omega arith) (read_placed v i l w k ∷ [])
              (λ j x o. elim o [ inl p ↦ subst (λ (z : Placed). is_write_of j z ≡ false) p refl | inr z ↦ absurd z ])
              (λ o z. z) (λ j. refl)))
          | inr ne ↦
              subst (After (read_at v i (Cell l) false w ∷ []) s) (sym (cond-false (t == v) (list ++ read_placed v i l w k ∷ []) list (ne_eqb t v ne)))
              (thread-hidden (read_at v i (Cell l) false w ∷ []) s (or_from (v == t) false (ne_eqb v t (λ f. ne (sym f))) refl, tt) (refl, tt)
              (λ u lu. omega arith) (λ j. refl) (λ u lu. refl))
        ]

    -- a relaxed write by v
    sent-grows : (m : Message) → m.stamp.thread ≡ v → m.stamp.clock ≡ s.clock v + 1 → (u : ℕ) → s.clock u ≤ (sent m s).clock u
    sent-grows m by top u =
        cond_both (u == m.stamp.thread) m.stamp.clock (s.clock u) (λ z. s.clock u ≤ z)
        (λ e. let q : s.clock u ≡ s.clock v = ap s.clock (eqb-true u m.stamp.thread e ∙ by) in omega arith)
        (λ e. omega arith)

    write-own : (m : Message) → m.index ≡ next v → m.stamp.thread ≡ v → m.stamp.clock ≡ s.clock v + 1 → t ≡ v
        → After (sent_operation m) (sent m s) (list ++ write_of m ∷ [])
    write-own m q by top e =
        thread-own e (write_of m ∷ []) (sent m s) (refl, tt)
        (λ x o. elim o [ inl p ↦ subst (λ (z : Placed). (z.operation.thread ≡ v) × (z.operation.index ≡ next v)) p (by, q) | inr z ↦ absurd z ])
        (tt, tt) (λ u lu. sent-to-own m u (by ∙ sym e)) (λ z. absurd (true≢false z), tt)
        (copied-write n t h.base s list h.copied h.base (sent m s) (λ u lu. let a = h.copied.floor u lu in let b = sent-grows m by top u in omega arith)
        (sent-grows m by top t) m false (let f : s.clock t ≡ s.clock v = ap s.clock e in omega arith)
        (let f : (sent m s).clock t ≡ m.stamp.clock = cond-true (t == m.stamp.thread) m.stamp.clock (s.clock t) (eq-eqb t m.stamp.thread (e ∙ sym by)) in omega arith)
        (λ l. cond-true (t == m.stamp.thread) (with_message m l (s.copy t l)) (s.copy t l) (eq-eqb t m.stamp.thread (e ∙ sym by))))

    write-other : (m : Message) → m.index ≡ next v → m.stamp.thread ≡ v → m.stamp.clock ≡ s.clock v + 1 → (t ≢ v)
        → After (sent_operation m) (sent m s) list
    write-other m q by top ne = record {
      base = h.base;
      splits = splits-hidden h.base ops list h.splits (sent_operation m) (refl, tt);
      names =
          names-sent n t h.base initial ops next (s.mail t) list h.names then ((sent m s).mail t) grows v m (λ e. ne (sym e)) by q more
          (let a = h.copied.floor v lv in omega arith)
          (cond-true ((v == m.stamp.thread) && not (t == v)) (s.mail t v ++ m ∷ []) (s.mail t v)
          (and_from (v == m.stamp.thread) (not (t == v)) (eq-eqb v m.stamp.thread (sym by)) (ap not (ne_eqb t v ne))))
          (λ u lu nu. cond-false ((u == m.stamp.thread) && not (t == u)) (s.mail t u ++ m ∷ []) (s.mail t u)
          (and_left (u == m.stamp.thread) (not (t == u)) (ne_eqb u m.stamp.thread (λ e. nu (e ∙ by))))) lv;
      copied =
          copied-same n t h.base s list h.copied h.base (sent m s) (λ u lu. let a = h.copied.floor u lu in let b = sent-grows m by top u in omega arith)
          (sent-grows m by top t)
          (λ l. cond-false (t == m.stamp.thread) (with_message m l (s.copy t l)) (s.copy t l) (ne_eqb t m.stamp.thread (λ e. ne (e ∙ by))));
    }

    pub thread-write : (m : Message) → m.index ≡ next v → m.stamp.thread ≡ v → m.stamp.clock ≡ s.clock v + 1
        → After (sent_operation m) (sent m s) (cond (t == v) (list ++ write_of m ∷ []) list)
    thread-write m q by top =
        elim (cases_eq t v) [
          | inl e ↦ subst (After (sent_operation m) (sent m s)) (sym (cond-true (t == v) (list ++ write_of m ∷ []) list (eq-eqb t v e))) (write-own m q by top e)
          | inr ne ↦ subst (After (sent_operation m) (sent m s)) (sym (cond-false (t == v) (list ++ write_of m ∷ []) list (ne_eqb t v ne))) (write-other m q by top ne)
        ]

    -- ---- synchronising actions
    module _ (none : NoneWaits n s) where
      nothing : (u : ℕ) (m : Message) → u < n → Has (s.mail t u) m → ⊥
      nothing u m lu w = subst (λ l. Has l m) (none t u lt lu) w

      abbrev top : ℕ
      top = greatest n s.clock

      high-top : (l : Loc) (x : Placed) → Has list x → is_write_of l x ≡ true → x.stamp.clock ≤ top
      high-top l x w e = let a = h.copied.high l x w e in let b = greatest-most n s.clock t lt in omega arith

      pub thread-met : (i : ℕ) → i ≡ next v → (os : List Operation) → Strict v i os → (k : Stamp) → ReadsLastFrom initial (operations list) os
          → After os (met n s) (list ++ map (placed k) os)
      thread-met i q os st k right =
          subst (λ z. After z (met n s) (list ++ map (placed k) os)) (operations-placed k os) (record {
            base = top;
            splits = splits-sync h.base ops list h.splits top (map (placed k) os)
                (λ l x w e. elim (has-cases list (map (placed k) os) x w) [
                  | inl o ↦ high-top l x o e
                  | inr o ↦ absurd (false≢true (sym (quiet-placed k v i os st l x o) ∙ e))
                ]);
            names =
                names-append n t h.base initial ops next (s.mail t) list h.names then (s.mail t) grows top v (map (placed k) os) more
                (λ x w.
                let o = has-placed k os x w in (
                  st.thread x.operation o,
                  st.index x.operation o ∙ q,
                  or_right (x.operation.thread == t) (x.operation.write || x.operation.strict) (or_right x.operation.write x.operation.strict (st.strict x.operation o)),
                ))
                (ranks-placed k os st.ranks) (λ u lu. refl) (λ m lu w. nothing v m lu w) (λ u m lu w. absurd (nothing u m lu w))
                (subst (ReadsLastFrom initial (operations list)) (sym (operations-placed k os)) right);
            copied =
                copied-quiet n t h.base s list h.copied top (met n s) (λ u lu. omega arith) (greatest-most n s.clock t lt) (map (placed k) os) (quiet-placed k v i os st)
                (subst (λ l. (o : Option Scalar) → IsZero o → IsZero (or_else (last_write Sync l) o)) (sym (operations-placed k os)) st.zeros) (λ l. refl);
          })

      pub thread-spread : (m : Message) → m.index ≡ next v → m.stamp.thread ≡ v → m.stamp.clock ≡ top + 1
          → After (write_at m.stamp.thread m.index (Cell m.loc) true m.value ∷ []) (spread m (met n s)) (list ++ written m true ∷ [])
      thread-spread m q by over = record {
        base = m.stamp.clock;
        splits = splits-sync h.base ops list h.splits m.stamp.clock (written m true ∷ [])
            (λ l x w e. elim (has-cases list (written m true ∷ []) x w) [
              | inl o ↦ let a = high-top l x o e in omega arith
              | inr o ↦ elim o [ inl p ↦ subst (λ (z : Placed). z.stamp.clock ≤ m.stamp.clock) p (omega arith) | inr z ↦ absurd z ]
            ]);
        names =
            names-append n t h.base initial ops next (s.mail t) list h.names then (s.mail t) grows m.stamp.clock v (written m true ∷ []) more
            (λ x o. elim o [
              | inl p ↦ subst (λ (z : Placed). (z.operation.thread ≡ v) × (z.operation.index ≡ next v) × (is_shown t z.operation ≡ true)) p
                  (by, q, or_right (m.stamp.thread == t) true refl)
              | inr z ↦ absurd z
            ])
            (tt, tt) (λ u lu. refl) (λ k lu w. nothing v k lu w) (λ u k lu w. absurd (nothing u k lu w)) (λ z. absurd (true≢false z), tt);
        copied =
            copied-write n t h.base s list h.copied m.stamp.clock (spread m (met n s)) (λ u lu. omega arith)
            (let b = greatest-most n s.clock t lt in omega arith) m true (let b = greatest-most n s.clock t lt in omega arith) (omega arith) (λ l. refl);
      }

-- ---- a message is delivered

module _ (n t : ℕ) (initial : Loc → Scalar) (ops : List Operation) (next : ℕ → ℕ) (s : Space) (list : List Placed)
    (h : Thread n t initial ops next s list) (lt : t < n) (to from : ℕ) (lf : from < n) (m : Message) (ms : List Message) (is : s.mail to from ≡ m ∷ ms) where
  abbrev got : Space
  got = received to from (m ∷ ms) s

  abbrev Got : List Placed → Type 0
  Got new = Thread n t initial ops next got new

  got-grows : (u : ℕ) → s.clock u ≤ got.clock u
  got-grows u =
      cond_both (u == to) (greater (s.clock u) m.stamp.clock) (s.clock u) (λ z. s.clock u ≤ z)
      (λ e. greater-left (s.clock u) m.stamp.clock) (λ e. omega arith)

  got-other : (t ≢ to) → Got list
  got-other ne =
      let z = ne_eqb t to ne in
      subst (λ o. Thread n t initial o next got list) (append-nil ops)
      (thread-hidden n t initial ops next next s list h (λ u. omega arith) lt [] got tt tt (λ u lu. got-grows u)
      (λ l. cond-false (t == to) (with_mail m l (s.copy t l)) (s.copy t l) z)
      (λ u lu. cond-false ((t == to) && (u == from)) ms (s.mail t u) (and_left (t == to) (u == from) z)))

  got-own : t ≡ to → Got (with_write m list)
  got-own e =
      let z = eq-eqb t to e in
      let has : s.mail t from ≡ m ∷ ms = ap (λ u. s.mail u from) e ∙ is in
      let above = (h.names.mailed from m lf (subst (λ l. Has l m) (sym has) (inl refl))).above in
      let p = puts h.base ops list h.splits m above in
      let g : got.clock t ≡ greater (s.clock t) m.stamp.clock = cond-true (t == to) (greater (s.clock t) m.stamp.clock) (s.clock t) z in
      let r = greater-right (s.clock t) m.stamp.clock in
      record {
        base = h.base;
        splits = splits-put h.base ops list h.splits m above;
        names =
            names-put n t h.base initial ops next (s.mail t) list h.names from lf m ms has (got.mail t)
            (cond-true ((t == to) && (from == from)) ms (s.mail t from) (and_from (t == to) (from == from) z (eq-eqb from from refl)))
            (λ v lv ne. cond-false ((t == to) && (v == from)) ms (s.mail t v) (and_right (t == to) (v == from) (ne_eqb v from ne)))
            (with_write m list) p;
        copied =
            copied-put n t h.base s list h.copied h.base got (λ u lu. let a = h.copied.floor u lu in let b = got-grows u in omega arith) (got-grows t) m
            (with_write m list) p (omega arith) (sync-put m list (with_write m list) p)
            (λ l. cond-true (t == to) (with_mail m l (s.copy t l)) (s.copy t l) z);
      }

  pub thread-got : Got (cond (t == to) (with_write m list) list)
  thread-got =
      elim (cases_eq t to) [
        | inl e ↦ subst Got (sym (cond-true (t == to) (with_write m list) list (eq-eqb t to e))) (got-own e)
        | inr ne ↦ subst Got (sym (cond-false (t == to) (with_write m list) list (ne_eqb t to ne))) (got-other ne)
      ]
