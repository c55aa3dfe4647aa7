-- All events of a run, one after another.
use Rattle.std.proofs.Common.{◌≡◌, ◌≢◌, ℕ, ◌+◌, ◌<◌, ◌≤◌, ◌==◌, true, List, [], ◌∷◌, ◌++◌, length, flat_map, Some, refl, sym, ap, ◌∙◌, subst, arith, append_assoc, append-nil, length-append, eq-eqb}
use Rattle.std.proofs.lemmas.Bool.{cond-true}
use Rattle.std.proofs.lemmas.List.Concat.{flat_map-append}
use Rattle.std.proofs.lemmas.List.Elements.{filter_map-append, filter-append}
use Rattle.block_layout.specs.declared.place.Loc.{Loc}
use Rattle.upc_values.specs.declared.scalar.Scalar.{Scalar}
use Rattle.upc_values.specs.declared.action.Action.{Action}
use Rattle.upc_values.specs.declared.action.Action.TheVariants as act
use Rattle.upc_values.specs.declared.action.Reply.{Reply}
use Rattle.upc_values.specs.declared.journal.Entry.{Entry}
use Rattle.upc_values.specs.Drain.{entries_of, entry_of, or_else}
use Rattle.upc_values.specs.Openings.{Opening, initial_of}
use Rattle.upc_values.specs.History.{objects, value_reply}
use Rattle.upc_values.specs.Operations.{accesses}
use Rattle.upc_values.specs.Consistent.{begins}
use Rattle.replica_space.specs.declared.event.Event.{Event}
use Rattle.replica_space.specs.declared.event.Deed.{Deed}
use Rattle.replica_space.specs.declared.event.Deed.TheVariants.{Did, Delivered}
use Rattle.replica_space.specs.Events.{entry_by, history_in}
use Rattle.replica_space.specs.Spaces.{Space, begun, is_synchronising, space_from, space_after, done}
use Rattle.replica_space.specs.Runs.{NoneWaits, value_in, replica_reply, MayDo, IsReplicaRunFrom, IsReplicaRun}
use Rattle.replica_space.specs.ReplicaOrders.{Listed, listed, listed_from, listed_after, operations_in}
use Rattle.replica_space_lists.specs.layer.Keeping.{IsKept, AreKept, CopiesAgree}
use Rattle.replica_space_lists.proofs.Stamps.{higher-later}
use Rattle.replica_space_lists.proofs.Copies.{begun-made, agree}
use Rattle.replica_space_lists.proofs.Splitting.{whole-strict, low-before}
use Rattle.replica_space_lists.proofs.Naming.{apart}
use Rattle.replica_space_lists.proofs.Acting.{All, Answered, acted, delivered-all}

listed-append : (n : ℕ) (x : Listed) (xs ys : List Event) → listed_from n x (xs ++ ys) ≡ listed_from n (listed_from n x xs) ys
listed-append n x [] ys = refl
listed-append n x (e ∷ xs) ys = listed-append n (record { space = done n e.by e.deed x.space; lists = listed n e.by e.deed x.space x.lists }) xs ys

space-of : (n : ℕ) (x : Listed) (es : List Event) → (listed_from n x es).space ≡ space_from n x.space es
space-of n x [] = refl
space-of n x (e ∷ es) = space-of n (record { space = done n e.by e.deed x.space; lists = listed n e.by e.deed x.space x.lists }) es

pub space-is : (n : ℕ) (es : List Event) → (listed_after n es).space ≡ space_after n es
space-is n es = space-of n (record { space = begun; lists = λ t. [] }) es

history-append : (xs ys : List Event) → history_in (xs ++ ys) ≡ history_in xs ++ history_in ys
history-append xs ys = filter_map-append (λ e. entry_by e.by e.deed) xs ys

-- after a history, in a run with these initial values
abbrev pub After : ℕ → (Loc → Scalar) → List Entry → Listed → Type 0
After n initial es x = All n initial (flat_map accesses es) (λ u. length (entries_of u es)) x

-- ---- the beginning

begun-all : (n : ℕ) (initial : Loc → Scalar) → After n initial [] (record { space = begun; lists = λ t. [] })
begun-all n initial = record {
  made = [];
  copies = begun-made n;
  threads = λ t lt. record {
    base = 0;
    splits = record { front = []; back = []; is = refl; relaxed = tt; strict = refl; low = λ l x w. absurd w };
    names =
        record {
          stands = λ x w. absurd w;
          order = tt;
          mailed = λ u m lu w. absurd w;
          rising = λ u lu. tt;
          has = λ o w. absurd w;
          reads = tt;
        };
    copied =
        record {
          high = λ l x w. absurd w;
          floor = λ u lu. omega arith;
          stamps = tt;
          last = λ l. refl;
          sync = refl;
        };
  };
}

-- ---- one event

entries-more : (u : ℕ) (es : List Entry) (e : Entry) → length (entries_of u (es ++ e ∷ [])) ≡ length (entries_of u es) + length (entries_of u (e ∷ []))
entries-more u es e = ap length (filter-append (λ x. x.thread == u) es (e ∷ [])) ∙ length-append (entries_of u es) (entries_of u (e ∷ []))

entries-own : (es : List Entry) (e : Entry) → length (entries_of e.thread es) < length (entries_of e.thread (es ++ e ∷ []))
entries-own es e =
    let a = entries-more e.thread es e in
    let b : length (entries_of e.thread (e ∷ [])) ≡ 1 = ap length (cond-true (e.thread == e.thread) (e ∷ []) [] (eq-eqb e.thread e.thread refl)) in
    omega arith

module _ (o : Opening) (before : List Event) (rest : List Entry) (initial : Loc → Scalar) (begin : initial ≡ begins o (history_in before ++ rest))
    (h : After o.threads initial (history_in before) (listed_after o.threads before)) where
  abbrev n : ℕ
  n = o.threads

  abbrev x : Listed
  x = listed_after o.threads before

  abbrev hist : List Entry
  hist = history_in before

  abbrev next : ℕ → ℕ
  next = λ u. length (entries_of u hist)

  answered : (v i : ℕ) (lv : v < n) (a : Action) (r : Reply) (then : ℕ → ℕ) (grows : (u : ℕ) → next u ≤ then u) (more : next v < then v) (q : i ≡ next v)
      → replica_reply o before v a ≡ Some r
      → Answered n initial (flat_map accesses hist) next then x h grows v lv more i q o before rest begin a r
  answered v i lv (act.Read l s) r then grows more q e =
      ap (λ (z : Space). value_reply (or_else (value_in (z.copy v l)) (initial_of o (objects o hist) l))) (space-is n before) ∙ e
  answered v i lv (act.Write s l w) r then grows more q e = cc
  answered v i lv a r then grows more q e = tt

  stepped : (v : ℕ) (d : Deed) → v < n → MayDo o before v d
      → let e : Event = record { by = v; deed = d } in
      After n initial (hist ++ history_in (e ∷ [])) (record { space = done n v d x.space; lists = listed n v d x.space x.lists })
  stepped v (Did i a r) lv m =
      let entry = entry_of v i a r in
      let then : ℕ → ℕ = λ u. length (entries_of u (hist ++ entry ∷ [])) in
      let grows : (u : ℕ) → next u ≤ then u = λ u. let z = entries-more u hist entry in omega arith in
      let more : next v < then v = entries-own hist entry in
      let none : is_synchronising a ≡ true → NoneWaits n x.space = λ s. subst (NoneWaits n) (sym (space-is n before)) (m.2 s) in
      let same : flat_map accesses hist ++ accesses entry ≡ flat_map accesses (hist ++ entry ∷ []) =
      sym (flat_map-append accesses hist (entry ∷ []) ∙ ap (λ l. flat_map accesses hist ++ l) (append-nil (accesses entry))) in
      subst (λ ops. All n initial ops then (record { space = done n v (Did i a r) x.space; lists = listed n v (Did i a r) x.space x.lists })) same
      (acted n initial (flat_map accesses hist) next then x h grows v lv more i m.0 o before rest begin a r (answered v i lv a r then grows more m.0 m.1) none)
  stepped v (Delivered to from) lv m =
      let some : x.space.mail to from ≢ [] = λ e. m.2 (ap (λ (z : Space). z.mail to from) (sym (space-is n before)) ∙ e) in
      subst (λ es. After n initial es (record { space = done n v (Delivered to from) x.space; lists = listed n v (Delivered to from) x.space x.lists })) (sym (append-nil hist))
      (delivered-all n initial (flat_map accesses hist) next x h to from m.0 m.1 (x.space.mail to from) refl some)

-- ---- all events

module _ (o : Opening) (whole : List Event) where
  abbrev pub Kept : List Event → Type 0
  Kept es = After o.threads (begins o (history_in whole)) (history_in es) (listed_after o.threads es)

  keeps : (before es : List Event) → before ++ es ≡ whole → IsReplicaRunFrom o before es → Kept before → Kept whole
  keeps before [] q r k = subst Kept (sym (append-nil before) ∙ q) k
  keeps before (e ∷ es) q r k =
      let begin : begins o (history_in whole) ≡ begins o (history_in before ++ history_in (e ∷ es)) =
      ap (λ l. begins o (history_in l)) (sym q) ∙ ap (begins o) (history-append before (e ∷ es)) in
      let s = stepped o before (history_in (e ∷ es)) (begins o (history_in whole)) begin k e.by e.deed r.0 r.1 in
      let y : Listed =
      record { space = done o.threads e.by e.deed (listed_after o.threads before).space; lists = listed o.threads e.by e.deed (listed_after o.threads before).space (listed_after o.threads before).lists } in
      let is : y ≡ listed_after o.threads (before ++ e ∷ []) = sym (listed-append o.threads (record { space = begun; lists = λ t. [] }) before (e ∷ [])) in
      keeps (before ++ e ∷ []) es (append_assoc before (e ∷ []) es ∙ q) r.2
      (subst (After o.threads (begins o (history_in whole)) (history_in (before ++ e ∷ []))) is
      (subst (λ l. After o.threads (begins o (history_in whole)) l y) (sym (history-append before (e ∷ []))) s))

  pub kept : IsReplicaRun o whole → Kept whole
  kept r = keeps [] whole refl r (begun-all o.threads (begins o (history_in whole)))

-- ---- the laws

pub are-kept : AreKept
are-kept o es t r lt =
    let n = o.threads in
    let h = kept o es r in
    let x = listed_after n es in
    let k = h.threads t lt in
    let c = k.copied in
    let m = k.names in
    subst (λ (s : Space). IsKept n t es s (x.lists t)) (space-is n es) (record {
      ascend = c.stamps;
      last = c.last;
      order = m.order;
      has = m.has;
      only = λ y w. let s = m.stands y w in (s.of, s.shown);
      apart = apart n t k.base (begins o (history_in es)) (operations_in es) (λ u. length (entries_of u (history_in es))) (x.space.mail t) (x.lists t) m;
      clock = c.high;
      strict = whole-strict k.base (operations_in es) (x.lists t) k.splits;
      late = λ u a l y z lu w p s v.
          let b = (m.mailed u a lu w).above in
          let d = low-before k.base (operations_in es) (x.lists t) k.splits l y z p s v in
          higher-later a.stamp y.stamp (omega arith);
    })

pub copies-agree : CopiesAgree
copies-agree o es t u l r none lt lu =
    let n = o.threads in
    let h = kept o es r in
    let x = listed_after n es in
    let a = agree n x.space h.made h.copies (subst (NoneWaits n) (sym (space-is n es)) none) t u l lt lu in
    subst (λ (s : Space). s.copy t l ≡ s.copy u l) (space-is n es) a
