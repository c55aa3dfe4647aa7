-- The journal of a run that went by rounds ends in the round in which it has to.
use Rattle.std.proofs.Common.{◌≡◌, ◌≢◌, ℕ, ◌<◌, true, false, List, [], map, length, Option, Some, refl, sym, ap, subst, ◌∙◌, inl, inr, get_or}
use Rattle.std.proofs.lemmas.Bool.{false≢true}
use Rattle.std.proofs.lemmas.List.{length-map, get_or-map}
use Rattle.upc_values.specs.declared.action.Action.{Action}
use Rattle.upc_values.specs.declared.record.Item.{Item}
use Rattle.upc_values.specs.declared.record.End.{End}
use Rattle.upc_values.specs.declared.record.End.TheVariants.{Ended, Fault, Budget, ActionsFull, Exit, Halted, Deadlocked}
use Rattle.upc_values.specs.declared.journal.Entry.{Entry}
use Rattle.upc_values.specs.declared.journal.Journal.{Journal}
use Rattle.upc_values.specs.Lists.{Numbered}
use Rattle.upc_values.specs.Openings.{Opening}
use Rattle.upc_values.specs.Outcomes.{wanted}
use Rattle.upc_values.specs.Records.{last_item, is_stall, replies_of}
use Rattle.upc_values.specs.Ends.{stops}
use Rattle.upc_task.specs.layer.Kept.{Worker}
use Rattle.upc_task.specs.Ends.{is_given}
use Rattle.upc_task.specs.layer.Sources.{Outcomes}
use Rattle.upc_task.specs.layer.Kept.{end_or, strand_of}
use Rattle.upc_task.proofs.Lists.{numbered-map}
use Rattle.upc_rounds_teams.specs.Rounds.{RestsAfterEach, MayGo, StandsLast, AfterEach, AfterLast, but_last, SomeMayGo, EndsInTime}
use Rattle.upc_rounds_teams.specs.layer.Played.{want_of, SomeGoes, GoneByRounds, IsEnded}
use Rattle.upc_rounds_teams.proofs.Resting.{after-map, rests-moved}
use Rattle.upc_rounds_teams.proofs.Rounding.{none-or, some-worker}

given-stops : (e : End) → is_given e ≡ true → stops e ≡ false
given-stops Halted h = refl
given-stops (Deadlocked a) h = refl
given-stops (Ended v) h = refl
given-stops (Fault c p) h = absurd (false≢true h)
given-stops Budget h = absurd (false≢true h)
given-stops ActionsFull h = absurd (false≢true h)
given-stops (Exit v) h = absurd (false≢true h)

module _ (o : Opening) (all : ℕ → Outcomes) (b : ℕ) where
  -- What a worker with this number wants after this record.
  abbrev wants : ℕ → List Item → Option Action
  wants i items = wanted (all b i (Rattle.upc_values.specs.Records.replies_of items)).«end»

  want-is : (i : ℕ) (k n : Worker) → IsEnded k n → k.thread ≡ i → wants i n.items.items ≡ want_of (all b) k
  want-is i k n e t =
      ap (wants i) (ap (λ l. l.items) e.items) ∙ ap (λ j. wants j k.items.items) (sym t)

  stays-ended : (i : ℕ) (k n : Worker) → IsEnded k n → k.thread ≡ i
      → Rattle.upc_rounds_teams.proofs.Resting.StaysAt k.items.items n.items.items (want_of (all b) k) (wants i n.items.items)
  stays-ended i k n e t = λ ahead behind a is next. (
    behind,
    ap (λ l. l.items) e.items ∙ is,
    ap (λ w. Rattle.upc_values.specs.Strands.next_action w behind) (want-is i k n e t) ∙ next,
  )

  same-given : (k n : Worker) → IsEnded k n → is_given (end_or k.«end») ≡ false → is_given (end_or n.«end») ≡ false
  same-given k n e h = elim (none-or k) [
    | inl q ↦ absurd (false≢true (sym h ∙ ap (λ g. is_given (end_or g)) q))
    | inr s ↦ ap (λ g. is_given (end_or g)) (e.own s.0 s.1) ∙ ap (λ g. is_given (end_or g)) (sym s.1) ∙ h
  ]

  ended-rests : (i : ℕ) (k n : Worker) (ps : List (List Entry)) → IsEnded k n → k.thread ≡ i
      → RestsAfterEach o i k.items.items (want_of (all b) k) (end_or k.«end») [] ps
      → RestsAfterEach o i n.items.items (wants i n.items.items) (end_or n.«end») [] ps
  ended-rests i k n ps e t h =
      rests-moved o i k.items.items n.items.items (want_of (all b) k) (wants i n.items.items) (end_or k.«end») (end_or n.«end») [] ps
      (stays-ended i k n e t) (same-given k n e) h

  stopped-before : (k n : Worker) → IsEnded k n → stops (end_or n.«end») ≡ true → stops (end_or k.«end») ≡ true
  stopped-before k n e h = elim (none-or k) [
    | inl q ↦ let g = e.given q in
        absurd (false≢true (sym (given-stops g.0 g.2) ∙ ap (λ z. stops (end_or z)) (sym g.1) ∙ h))
    | inr s ↦ ap (λ z. stops (end_or z)) (s.1 ∙ sym (e.own s.0 s.1)) ∙ h
  ]

  -- An end by a full record was there before.
  full-before : (k n : Worker) → IsEnded k n → end_or n.«end» ≡ ActionsFull → k.«end» ≡ Some ActionsFull
  full-before k n e h = elim (none-or k) [
    | inl q ↦ let g = e.given q in
        let is : g.0 ≡ ActionsFull = ap end_or (sym g.1) ∙ h in
        absurd (false≢true (ap is_given (sym is) ∙ g.2))
    | inr s ↦ s.1 ∙ ap Some (ap end_or (sym (e.own s.0 s.1)) ∙ h)
  ]

  full-after : (k n : Worker) → IsEnded k n → (end_or n.«end» ≢ ActionsFull) → (k.«end» ≢ Some ActionsFull)
  full-after k n e h q = h (ap end_or (e.own ActionsFull q))

  abbrev journal_of : ℕ → ℕ → List Worker → List Entry → Journal
  journal_of threads actions ns history = record {
    threads = threads;
    budget = b;
    actions = actions;
    strands = map (strand_of (all b)) ns;
    history = history;
  }

  some-goes : (threads actions : ℕ) (ks ns : List Worker) (history : List Entry) → length ns ≡ length ks
      → ((i : ℕ) (d : Worker) → i < length ks → IsEnded (get_or ks i d) (get_or ns i d)) → Numbered (λ i k. k.thread ≡ i) ks
      → (before part : List Entry) → SomeGoes o (all b) ks before part → SomeMayGo o all (journal_of threads actions ns history) before part
  some-goes threads actions ks ns history many ends numbered before part s =
      let i = s.thread in let lt = s.within in let ln : i < length ns = subst (λ n. i < n) (sym many) lt in
      let w = some-worker ks i lt in let k = get_or ks i w in let n = get_or ns i w in
      record {
        thread = i;
        within = subst (λ n. i < n) (sym (length-map ns (strand_of (all b)))) ln;
        goes = λ d.
            subst (λ r. MayGo o i r.items (wants i r.items) before part) (sym (get_or-map (strand_of (all b)) ns i w d ln))
            (elim (s.goes w) [
              | inl beat ↦ inl beat
              | inr r ↦ inr (Rattle.upc_rounds_teams.proofs.Resting.ready-stays o i k.items.items n.items.items (want_of (all b) k) (wants i n.items.items) before part
                  (stays-ended i k n (ends i w lt) (numbered i w lt)) r)
            ]);
      }

  pub gone-in-time : (threads actions : ℕ) (ks ns : List Worker) (history : List Entry) → length ns ≡ length ks
      → ((i : ℕ) (d : Worker) → i < length ks → IsEnded (get_or ks i d) (get_or ns i d)) → Numbered (λ i k. k.thread ≡ i) ks
      → Numbered (λ i k. k.limits.actions ≡ actions) ks → GoneByRounds o (all b) history ks
      → EndsInTime o all (journal_of threads actions ns history)
  gone-in-time threads actions ks ns history many ends numbered limits g =
      let lt : (i : ℕ) → i < length ns → i < length ks = λ i l. subst (λ n. i < n) many l in
      let ps = g.has.parts in let f = strand_of (all b) in record {
        stops_in_time = record {
          rounds = record {
            parts = ps;
            whole = g.has.whole;
            rests = numbered-map f (λ i n. RestsAfterEach o i n.items.items (wants i n.items.items) (end_or n.«end») [] ps)
                (λ i r. RestsAfterEach o i r.items (wants i r.items) r.«end» [] ps) (λ i n h. h) ns
                (λ i d l. ended-rests i (get_or ks i d) (get_or ns i d) ps (ends i d (lt i l)) (numbered i d (lt i l)) (g.has.rests i d (lt i l)));
          };
          before = numbered-map f
              (λ i n. stops (end_or n.«end») ≡ true → RestsAfterEach o i n.items.items (wants i n.items.items) Halted [] (but_last ps))
              (λ i r. stops r.«end» ≡ true → RestsAfterEach o i r.items (wants i r.items) Halted [] (but_last ps)) (λ i n h. h) ns
              (λ i d l s. let k = get_or ks i d in let n = get_or ns i d in let e = ends i d (lt i l) in
              rests-moved o i k.items.items n.items.items (want_of (all b) k) (wants i n.items.items) Halted Halted [] (but_last ps)
              (stays-ended i k n e (numbered i d (lt i l))) (λ y. y) (g.before i d (lt i l) (stopped-before k n e s)));
        };
        goes = after-map (SomeGoes o (all b) ks) (SomeMayGo o all (journal_of threads actions ns history)) [] (but_last ps)
            (some-goes threads actions ks ns history many ends numbered) g.goes;
        full_ends = numbered-map f
            (λ i n. length n.items.items ≡ actions → (end_or n.«end» ≢ ActionsFull)
            → AfterEach (λ before part. StandsLast i n.items.items before part → ⊥) [] (but_last ps))
            (λ i r. length r.items ≡ actions → (r.«end» ≢ ActionsFull)
            → AfterEach (λ before part. StandsLast i r.items before part → ⊥) [] (but_last ps)) (λ i n h. h) ns
            (λ i d l q ne. let k = get_or ks i d in let n = get_or ns i d in let e = ends i d (lt i l) in
            let items : n.items.items ≡ k.items.items = ap (λ x. x.items) e.items in
            subst (λ xs. AfterEach (λ before part. StandsLast i xs before part → ⊥) [] (but_last ps)) (sym items)
            (g.full_ends i d (lt i l) (ap length (sym items) ∙ q ∙ sym (limits i d (lt i l))) (full-after k n e ne)));
        full_stood = numbered-map f
            (λ i n. end_or n.«end» ≡ ActionsFull → is_stall (last_item n.items.items) ≡ true → AfterLast (StandsLast i n.items.items) [] (but_last ps))
            (λ i r. r.«end» ≡ ActionsFull → is_stall (last_item r.items) ≡ true → AfterLast (StandsLast i r.items) [] (but_last ps)) (λ i n h. h) ns
            (λ i d l q s. let k = get_or ks i d in let n = get_or ns i d in let e = ends i d (lt i l) in
            let items : n.items.items ≡ k.items.items = ap (λ x. x.items) e.items in
            subst (λ xs. AfterLast (StandsLast i xs) [] (but_last ps)) (sym items)
            (g.full_stood i d (lt i l) (full-before k n e q) (ap (λ xs. is_stall (last_item xs)) (sym items) ∙ s)));
      }
