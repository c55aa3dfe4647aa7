-- A thread's part in a round, by the items that it adds to the record and the actions that it adds to the events.
use Rattle.std.proofs.Common.{◌≡◌, ℕ, ◌+◌, true, false, List, [], ◌∷◌, ◌++◌, Option, Some, None, is_some, refl, sym, ap, subst, ◌∙◌, append-nil, append_assoc, inl, inr}
use Rattle.std.specs.Prelude.{◌⊎◌}
use Rattle.std.proofs.lemmas.Bool.{false≢true}
use Rattle.std.proofs.lemmas.List.{append_cancel_left}
use mathlib.Core.List.{IsPrefix}
use Rattle.upc_values.specs.declared.action.Action.{Action}
use Rattle.upc_values.specs.declared.action.Reply.{Reply}
use Rattle.upc_values.specs.declared.record.Item.{Item}
use Rattle.upc_values.specs.declared.record.Item.TheVariants.{Did, Stall}
use Rattle.upc_values.specs.declared.journal.Entry.{Entry}
use Rattle.upc_values.specs.Openings.{Opening}
use Rattle.upc_values.specs.Drain.{entry_of, entries_of}
use Rattle.upc_values.specs.History.{reply}
use Rattle.upc_values.specs.Records.{is_beat, is_stall, last_from, last_item}
use Rattle.upc_values.proofs.Walks.{entries_of-append}
use Rattle.stack_code.specs.layer.Codes.{Codes}
use Rattle.replica_space.specs.declared.event.Event.{Event}
use Rattle.replica_space.specs.Events.{history_in}
use Rattle.replica_space.specs.ReplicaSound.{own_entries, own_from}
use Rattle.upc_task.specs.layer.Sources.{Outcomes}
use Rattle.upc_rounds_teams.specs.Rounds.{BeatsLast, ends_with_beat}
use Rattle.replica_space_tasks.specs.declared.worker.ReplicaWorker.{ReplicaWorker}
use Rattle.replica_space_tasks.specs.layer.Kept.{IsKept, events_of}
use Rattle.replica_space_tasks.proofs.Alone.{own-stall}
use Rattle.replica_space_tasks.proofs.Events.{entries-none, history-append}
use Rattle.replica_space_parts.specs.layer.Seated.{AreGoing, KeepsStalls, StallsAfter, Went, want_of}
use Rattle.replica_space_parts.proofs.Parts.{kept-entered, none-behind}
use Rattle.replica_space_parts.proofs.Stepping.{keeps-self, wished-want}
use Rattle.replica_space_rounds.specs.ReplicaRounds.{actions_by, StandsAlone}
use Rattle.replica_space_rounds.specs.layer.Rounds.{Played}

pub by-append : (t : ℕ) (xs ys : List Event) → actions_by t (xs ++ ys) ≡ actions_by t xs ++ actions_by t ys
by-append t xs ys = ap (entries_of t) (history-append xs ys) ∙ entries_of-append t (history_in xs) (history_in ys)

-- ---- the entries of the items that were added

own-append : (t n : ℕ) (xs ys : List Item) → (m : ℕ) × (own_from t n (xs ++ ys) ≡ own_from t n xs ++ own_from t m ys)
own-append t n [] ys = (n, refl)
own-append t n (Stall ∷ xs) ys = own-append t n xs ys
own-append t n (Did a r ∷ xs) ys =
    let z = own-append t (n + 1) xs ys in (z.0, ap (λ l. entry_of t n a r ∷ l) z.1)

-- What the thread added to the events is what it added to its record.
added-own : (t : ℕ) (before part : List Event) (xs ys new : List Item) → actions_by t before ≡ own_entries t xs
    → actions_by t (before ++ part) ≡ own_entries t ys → ys ≡ xs ++ new → (n : ℕ) × (actions_by t part ≡ own_from t n new)
added-own t before part xs ys new old now is =
    let z = own-append t 0 xs new in (
      z.0,
      append_cancel_left (own_entries t xs) (actions_by t part) (own_from t z.0 new)
          (ap (λ l. l ++ actions_by t part) (sym old) ∙ sym (by-append t before part) ∙ now ∙ ap (own_entries t) is ∙ z.1),
    )

going-beats : (t n : ℕ) (xs : List Item) → AreGoing xs → BeatsLast (own_from t n xs)
going-beats t n [] h = tt
going-beats t n (Did a r ∷ []) h = tt
going-beats t n (Did a r ∷ Did b s ∷ xs) h = (h.0, going-beats t (n + 1) (Did b s ∷ xs) h.1)
going-beats t n (Did a r ∷ Stall ∷ xs) h = absurd h.1
going-beats t n (Stall ∷ xs) h = absurd h

beat-last : (t n : ℕ) (xs : List Item) (a : Action) (r : Reply) → AreGoing xs → BeatsLast (own_from t n (xs ++ Did a r ∷ []))
beat-last t n [] a r h = tt
beat-last t n (Did b s ∷ []) a r h = (h.0, tt)
beat-last t n (Did b s ∷ Did c u ∷ xs) a r h = (h.0, beat-last t (n + 1) (Did c u ∷ xs) a r h.1)
beat-last t n (Did b s ∷ Stall ∷ xs) a r h = absurd h.1
beat-last t n (Stall ∷ xs) a r h = absurd h

beat-ends : (t n : ℕ) (xs : List Item) (a : Action) (r : Reply) → AreGoing xs → is_beat a ≡ true
    → ends_with_beat (own_from t n (xs ++ Did a r ∷ [])) ≡ true
beat-ends t n [] a r h b = b
beat-ends t n (Did c s ∷ []) a r h b = b
beat-ends t n (Did c s ∷ Did d u ∷ xs) a r h b = beat-ends t (n + 1) (Did d u ∷ xs) a r h.1 b
beat-ends t n (Did c s ∷ Stall ∷ xs) a r h b = absurd h.1
beat-ends t n (Stall ∷ xs) a r h b = absurd h

stall-beats : (t n : ℕ) (xs : List Item) → AreGoing xs → BeatsLast (own_from t n (xs ++ Stall ∷ []))
stall-beats t n xs h =
    let z = own-append t n xs (Stall ∷ []) in
    subst BeatsLast (sym (z.1 ∙ append-nil (own_from t n xs))) (going-beats t n xs h)

-- ---- standing at a Stall

stall-last : (o : Option Item) (xs : List Item) → is_stall o ≡ false → is_stall (last_from o xs) ≡ true
    → (ahead : List Item) × (xs ≡ ahead ++ Stall ∷ [])
stall-last o [] h q = absurd (false≢true (sym h ∙ q))
stall-last o (Did a r ∷ xs) h q =
    let z = stall-last (Some (Did a r)) xs refl q in (Did a r ∷ z.0, ap (λ l. Did a r ∷ l) z.1)
stall-last o (Stall ∷ []) h q = ([], refl)
stall-last o (Stall ∷ Stall ∷ xs) h q =
    let z = stall-last o (Stall ∷ xs) h q in (Stall ∷ z.0, ap (λ l. Stall ∷ l) z.1)
stall-last o (Stall ∷ Did a r ∷ xs) h q =
    let z = stall-last o (Did a r ∷ xs) h q in (Stall ∷ z.0, ap (λ l. Stall ∷ l) z.1)

-- A thread's part in a round: the worker k became m, whose seat had seen these events of the part.
module _ (o : Opening) (c : Codes) (f : Outcomes) (i : ℕ) (before seen part : List Event) (k m : ReplicaWorker)
    (b : IsPrefix seen part) (own : events_of i part ≡ events_of i seen) (old : k.recorder.thread ≡ i)
    (new : m.recorder.thread ≡ i) (was : IsKept o c f before k) (kept : IsKept o c f (before ++ seen) m) where
  -- It is kept over the whole part.
  pub kept-whole : IsKept o c f (before ++ part) m
  kept-whole = kept-entered o c f i before seen part m b own new kept

  own-of : (es : List Event) (l : ReplicaWorker) → l.recorder.thread ≡ i → IsKept o c f es l
      → actions_by i es ≡ own_entries i l.recorder.items.items
  own-of es l same h = subst (λ t. actions_by t es ≡ own_entries t l.recorder.items.items) same h.own

  added : (xs : List Item) → m.recorder.items.items ≡ k.recorder.items.items ++ xs → (n : ℕ) × (actions_by i part ≡ own_from i n xs)
  added xs is =
      added-own i before part k.recorder.items.items m.recorder.items.items xs (own-of before k old was)
      (own-of (before ++ part) m new kept-whole) is

  stands : (more : List Item) → StallsAfter o (before ++ seen) more k.recorder m.recorder
      → StandsAlone o i m.recorder.items.items (want_of f m.recorder) before part
  stands more w =
      let a = stall-last None m.recorder.items.items refl w.1.2 in
      let ahead : (es : List Event) → IsKept o c f es m → actions_by i es ≡ own_entries i a.0 =
      λ es h. own-of es m new h ∙ ap (own_entries i) a.1 ∙ own-stall i a.0 in
      record {
        ahead = a.0;
        behind = [];
        is = a.1;
        done = ahead (before ++ part) kept-whole;
        front = seen;
        rest = b.0;
        cut = sym b.1;
        whole = ahead (before ++ seen) kept;
        action = w.1.0;
        wants = wished-want o c f m.recorder w.1.0 kept.recorded w.1.1;
        none = subst (λ t. reply o (history_in (before ++ seen)) t w.1.0 ≡ None) new w.1.3;
      }

  pub played-took : k.recorder.«end» ≡ None → KeepsStalls f k.recorder m.recorder → Went o (before ++ seen) k.recorder m.recorder
      → Played o f i before part k m
  played-took opened keeps w = record {
    beats = elim w.rests [
      | inl r ↦ let n = added (w.more ++ Did r.0 r.1 ∷ []) r.3 in
          subst BeatsLast (sym n.1) (beat-last i n.0 w.more r.0 r.1 w.going)
      | inr r ↦ elim r [
        | inl e ↦ let n = added w.more e.1 in subst BeatsLast (sym n.1) (going-beats i n.0 w.more w.going)
        | inr s ↦ elim s.2 [
          | inl is ↦ let n = added w.more is in subst BeatsLast (sym n.1) (going-beats i n.0 w.more w.going)
          | inr is ↦ let n = added (w.more ++ Stall ∷ []) is in
              subst BeatsLast (sym n.1) (stall-beats i n.0 w.more w.going)
        ]
      ]
    ];
    keeps = keeps;
    rests = elim w.rests [
      | inl r ↦ let n = added (w.more ++ Did r.0 r.1 ∷ []) r.3 in
          inl (ap ends_with_beat n.1 ∙ beat-ends i n.0 w.more r.0 r.1 w.going r.2)
      | inr r ↦ elim r [ inl e ↦ inr (inl e.0) | inr s ↦ inr (inr (stands w.more s)) ]
    ];
    over = λ q. absurd (false≢true (sym (ap is_some opened) ∙ q));
  }

-- One that had its end has played too.
pub played-over : (o : Opening) (f : Outcomes) (i : ℕ) (before part : List Event) (k m : ReplicaWorker)
    → is_some k.recorder.«end» ≡ true → m ≡ k → events_of i part ≡ [] → Played o f i before part k m
played-over o f i before part k m ended same none =
    let quiet : actions_by i part ≡ [] = entries-none i part none in
    record {
      beats = subst BeatsLast (sym quiet) tt;
      keeps = subst (λ (n : ReplicaWorker). KeepsStalls f k.recorder n.recorder) (sym same) (keeps-self f k.recorder);
      rests = inr (inl (ap (λ (n : ReplicaWorker). is_some n.recorder.«end») same ∙ ended));
      over = λ q. (same, quiet);
    }
