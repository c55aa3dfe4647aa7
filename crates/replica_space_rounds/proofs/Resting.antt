-- Where threads rest between the rounds, when a round is added.
use Rattle.std.proofs.Common.{◌≡◌, ℕ, ◌<◌, true, false, List, [], ◌∷◌, ◌++◌, length, Option, Some, None, is_some, refl, sym, ap, subst, ◌∙◌, append-nil, append_assoc, inl, inr, get_or}
use Rattle.std.specs.Prelude.{◌⊎◌}
use Rattle.std.proofs.lemmas.Bool.{false≢true}
use Rattle.upc_values.specs.declared.action.Action.{Action}
use Rattle.upc_values.specs.declared.record.Item.{Item}
use Rattle.upc_values.specs.declared.record.Item.TheVariants.{Stall}
use Rattle.upc_values.specs.declared.record.End.{End}
use Rattle.upc_values.specs.declared.record.End.TheVariants.{Halted}
use Rattle.upc_values.specs.Lists.{Numbered}
use Rattle.upc_values.specs.Openings.{Opening}
use Rattle.upc_values.specs.Strands.{next_action}
use Rattle.replica_space.specs.declared.event.Event.{Event}
use Rattle.upc_task.specs.Ends.{is_given}
use Rattle.upc_task.specs.layer.Sources.{Outcomes}
use Rattle.upc_task.specs.layer.Recorded.{end_or}
use Rattle.upc_rounds_base.specs.layer.Ending.{HasOwnEnd}
use Rattle.upc_rounds_teams.specs.Rounds.{BeatsLast}
use Rattle.replica_space_tasks.specs.declared.worker.ReplicaWorker.{ReplicaWorker}
use Rattle.replica_space_parts.specs.layer.Seated.{want_of}
use Rattle.replica_space_parts.proofs.Stepping.{keeps-same}
use Rattle.replica_space_rounds.specs.ReplicaRounds.{actions_by, events_in, StandsAlone, RestsAlone, RestsAloneAfterEach}
use Rattle.replica_space_rounds.specs.layer.Rounds.{HasGone, Played}
use Rattle.replica_space_rounds.proofs.Owning.{by-append}

parts-push : (ps : List (List Event)) (q : List Event) → events_in (ps ++ q ∷ []) ≡ events_in ps ++ q
parts-push [] q = append-nil q
parts-push (p ∷ ps) q = ap (λ l. p ++ l) (parts-push ps q) ∙ sym (append_assoc p (events_in ps) q)

-- Stalls that stay.
abbrev StaysAt : List Item → List Item → Option Action → Option Action → Type 0
StaysAt items items' want want' =
    (ahead behind : List Item) (a : Action) → items ≡ ahead ++ Stall ∷ behind → next_action want behind ≡ Some a
    → (rest : List Item) × (items' ≡ ahead ++ Stall ∷ rest) × (next_action want' rest ≡ Some a)

module _ (o : Opening) (t : ℕ) (items items' : List Item) (want want' : Option Action) (stays : StaysAt items items' want want') where
  stands-stays : (b p : List Event) → StandsAlone o t items want b p → StandsAlone o t items' want' b p
  stands-stays b p s =
      let n = stays s.ahead s.behind s.action s.is s.wants in
      record {
        ahead = s.ahead;
        behind = n.0;
        is = n.1;
        done = s.done;
        front = s.front;
        rest = s.rest;
        cut = s.cut;
        whole = s.whole;
        action = s.action;
        wants = n.2;
        none = s.none;
      }

  -- The thread rests where it rested, with an end that is given where the other is.
  pub rests-moved : (g g' : End) (before : List Event) (ps : List (List Event)) → (is_given g ≡ false → is_given g' ≡ false)
      → RestsAloneAfterEach o t items want g before ps → RestsAloneAfterEach o t items' want' g' before ps
  rests-moved g g' before [] e h = tt
  rests-moved g g' before (p ∷ ps) e h = (
    h.0,
    elim h.1 [
      | inl b ↦ inl b
      | inr z ↦ elim z [ inl y ↦ inr (inl (y.0, e y.1)) | inr s ↦ inr (inr (stands-stays before p s)) ]
    ],
    rests-moved g g' (before ++ p) ps e h.2,
  )

  -- A part more.
  rests-push : (g g' : End) (before : List Event) (ps : List (List Event)) (q : List Event)
      → (is_given g ≡ false → (actions_by t q ≡ []) × (is_given g' ≡ false)) → RestsAloneAfterEach o t items want g before ps
      → BeatsLast (actions_by t q) → RestsAlone o t items' want' g' (before ++ events_in ps) q []
      → RestsAloneAfterEach o t items' want' g' before (ps ++ q ∷ [])
  rests-push g g' before [] q over h beats r =
      (beats, subst (λ l. RestsAlone o t items' want' g' l q []) (append-nil before) r, tt)
  rests-push g g' before (p ∷ ps) q over h beats r = (
    h.0,
    elim h.1 [
      | inl b ↦ inl b
      | inr z ↦ elim z [
        | inl y ↦ let v = over y.1 in
            inr (inl (
              ap (actions_by t) (parts-push ps q) ∙ by-append t (events_in ps) q ∙ ap (λ l. l ++ actions_by t q) y.0 ∙ v.0,
              v.1,
            ))
        | inr s ↦ inr (inr (stands-stays before p s))
      ]
    ],
    rests-push g g' (before ++ p) ps q over h.2 beats
        (subst (λ l. RestsAlone o t items' want' g' l q []) (sym (append_assoc before p (events_in ps))) r),
  )

none-or : (z : Option End) → (z ≡ None) ⊎ ((e : End) × (z ≡ Some e))
none-or None = inl refl
none-or (Some e) = inr (e, refl)

-- A round more of one thread.
rests-round : (o : Opening) (f : Outcomes) (i : ℕ) (events part : List Event) (ps : List (List Event)) (k m : ReplicaWorker)
    → events_in ps ≡ events → HasOwnEnd m.recorder → Played o f i events part k m
    → RestsAloneAfterEach o i k.recorder.items.items (want_of f k.recorder) (end_or k.recorder.«end») [] ps
    → RestsAloneAfterEach o i m.recorder.items.items (want_of f m.recorder) (end_or m.recorder.«end») [] (ps ++ part ∷ [])
rests-round o f i events part ps k m whole own p h =
    let xs = k.recorder.items.items in let ys = m.recorder.items.items in
    let v = want_of f k.recorder in let w = want_of f m.recorder in let g = end_or m.recorder.«end» in
    let now : RestsAlone o i ys w g ([] ++ events_in ps) part [] =
    subst (λ l. RestsAlone o i ys w g l part []) (sym whole)
    (elim p.rests [
      | inl b ↦ inl b
      | inr z ↦ elim z [
        | inl y ↦ elim (none-or m.recorder.«end») [
          | inl n ↦ absurd (false≢true (sym (ap is_some n) ∙ y))
          | inr e ↦ inr (inl (refl, ap (λ z. is_given (end_or z)) e.1 ∙ own e.0 e.1))
        ]
        | inr s ↦ inr (inr s)
      ]
    ]) in
    elim (none-or k.recorder.«end») [
      | inl q ↦ rests-push o i xs ys v w p.keeps Halted g [] ps part (λ y. absurd (false≢true (sym y)))
          (subst (λ z. RestsAloneAfterEach o i xs v z [] ps) (ap end_or q) h) p.beats now
      | inr e ↦ let u = p.over (ap is_some e.1) in
          rests-push o i xs ys v w p.keeps (end_or k.recorder.«end») g [] ps part
          (λ y. (u.1, ap (λ (n : ReplicaWorker). is_given (end_or n.recorder.«end»)) u.0 ∙ y)) h p.beats now
    ]

-- A round more of all.
pub gone-round : (o : Opening) (f : Outcomes) (events part : List Event) (ks ms : List ReplicaWorker) → length ms ≡ length ks
    → Numbered (λ _ (m : ReplicaWorker). HasOwnEnd m.recorder) ms
    → ((i : ℕ) (d : ReplicaWorker) → i < length ks → Played o f i events part (get_or ks i d) (get_or ms i d))
    → HasGone o f events ks → HasGone o f (events ++ part) ms
gone-round o f events part ks ms many own played g = record {
  parts = g.parts ++ part ∷ [];
  whole = parts-push g.parts part ∙ ap (λ l. l ++ part) g.whole;
  rests = λ i d lt.
      let li : i < length ks = subst (λ n. i < n) many lt in
      rests-round o f i events part g.parts (get_or ks i d) (get_or ms i d) g.whole (own i d lt) (played i d li)
      (g.rests i d li);
}

-- Before the first round.
pub gone-start : (o : Opening) (f : Outcomes) (ks : List ReplicaWorker) → HasGone o f [] ks
gone-start o f ks = record { parts = []; whole = refl; rests = λ i d lt. tt }

-- ---- at the end

-- A thread that was given its end, or kept the one that it had.
pub record IsEndedAs (k m : ReplicaWorker) : Type 0 where
  pub thread : m.recorder.thread ≡ k.recorder.thread
  pub items : m.recorder.items.items ≡ k.recorder.items.items
  pub own : (e : End) → k.recorder.«end» ≡ Some e → m.recorder.«end» ≡ Some e

own-given : (y z : Option End) → ((e : End) → y ≡ Some e → z ≡ Some e) → is_given (end_or y) ≡ false → is_given (end_or z) ≡ false
own-given None z h q = absurd (false≢true (sym q))
own-given (Some e) z h q = ap (λ y. is_given (end_or y)) (h e refl) ∙ q

pub gone-ended : (o : Opening) (f : Outcomes) (events : List Event) (ks ms : List ReplicaWorker) → length ms ≡ length ks
    → ((i : ℕ) (d : ReplicaWorker) → i < length ks → IsEndedAs (get_or ks i d) (get_or ms i d))
    → HasGone o f events ks → HasGone o f events ms
gone-ended o f events ks ms many ended g = record {
  parts = g.parts;
  whole = g.whole;
  rests = λ i d lt.
      let li : i < length ks = subst (λ n. i < n) many lt in
      let k = get_or ks i d in let m = get_or ms i d in let e = ended i d li in
      rests-moved o i k.recorder.items.items m.recorder.items.items (want_of f k.recorder) (want_of f m.recorder)
      (keeps-same f k.recorder m.recorder e.thread e.items) (end_or k.recorder.«end») (end_or m.recorder.«end») [] g.parts
      (own-given k.recorder.«end» m.recorder.«end» e.own) (g.rests i d li);
}
