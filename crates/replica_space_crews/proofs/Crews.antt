-- A crew of workers: when one of them has gone on, and when the run is over.
use Rattle.std.proofs.Common.{◌≡◌, ◌≢◌, ℕ, ◌+◌, ◌<◌, ◌≤◌, true, false, cond, List, [], ◌∷◌, ◌++◌, map, length, Option, Some, None, is_some, refl, sym, ap, subst, ◌∙◌, arith, inl, inr, get_or, set}
use Rattle.std.proofs.Common.{length-set, get_or-set_same, get_or-set_other}
use Rattle.std.proofs.lemmas.Bool.{cases_eq, ne_eqb}
use Rattle.std.proofs.lemmas.List.{length-map, get_or-map}
use Rattle.upc_values.specs.declared.action.Action.{Action}
use Rattle.upc_values.specs.declared.record.End.{End}
use Rattle.upc_values.specs.declared.record.End.TheVariants.{Ended, Fault, Budget, ActionsFull, Exit, Halted, Deadlocked}
use Rattle.upc_values.specs.declared.journal.Entry.{Entry}
use Rattle.upc_values.specs.declared.journal.Strand.{Strand}
use Rattle.upc_values.specs.Lists.{Numbered}
use Rattle.upc_values.specs.Openings.{Opening}
use Rattle.upc_values.specs.History.{reply}
use Rattle.upc_values.specs.Formed.{AreWellFormed}
use Rattle.upc_values.specs.Records.{replies_of}
use Rattle.upc_values.specs.Outcomes.{Outcome}
use Rattle.upc_values.specs.Strands.{strand_ticks}
use Rattle.upc_values.specs.Ends.{stops, settles, OwnEnd, SharedEnd, AreSpent}
use Rattle.stack_code.specs.layer.Codes.{Codes}
use Rattle.stack_machine.specs.declared.wish.Wish.{Wish}
use Rattle.stack_machine.specs.declared.wish.Wish.TheVariants.{Act}
use Rattle.replica_space.specs.declared.event.Event.{Event}
use Rattle.replica_space.specs.declared.event.ReplicaJournal.{ReplicaJournal}
use Rattle.replica_space.specs.Events.{history_in}
use Rattle.replica_space.specs.Runs.{IsReplicaRun}
use Rattle.replica_space.specs.ReplicaSound.{IsReplicaStrand, IsSoundReplica, as_journal}
use Rattle.upc_task.specs.declared.limits.Limits.{Limits}
use Rattle.upc_task.specs.Ends.{is_given}
use Rattle.upc_task.specs.layer.Sources.{Outcomes, IsSource}
use Rattle.upc_task.specs.layer.Recorded.{end_or, strand_of}
use Rattle.upc_task.proofs.Lists.{numbered-map, some-of}
use Rattle.upc_task.proofs.Options.{some-is}
use Rattle.upc_rounds_base.specs.layer.Ending.{Stops, Wanting, halted, halted_end, locked, locked_end}
use Rattle.upc_rounds_base.proofs.Ending.{halted-ended, stops-halted, locked-some, locked-ended, locked-settles}
use Rattle.replica_space_tasks.specs.declared.worker.ReplicaWorker.{ReplicaWorker}
use Rattle.replica_space_tasks.specs.layer.Kept.{IsKept, AllOf, AreDeliveredBy, events_of}
use Rattle.replica_space_tasks.specs.layer.Laws.{StaysOverOthers, StrandsAreSound, RunsDeliver}
use Rattle.replica_space_crews.specs.layer.Crews.{IsAt, IsMember, IsCrew, StaysCrew, Moved, Another, Given, IsOver, IsStopped, NoneStops, IsHalted, IsLocked, AreEach, strands_of}

-- One more is so related to what it was.
pub each-set : (R : ReplicaWorker → ReplicaWorker → Type 0) (ks ls : List ReplicaWorker) (t : ℕ) (m : ReplicaWorker) → t < length ls
    → ((i : ℕ) (d : ReplicaWorker) → i < t → R (get_or ks i d) (get_or ls i d)) → ((d : ReplicaWorker) → R (get_or ks t d) m)
    → (i : ℕ) (d : ReplicaWorker) → i < t + 1 → R (get_or ks i d) (get_or (set ls t m) i d)
each-set R ks ls t m lt done here i d less = elim (cases_eq i t) as (λ z. R (get_or ks i d) (get_or (set ls t m) i d)) [
  | inl e ↦ subst (λ j. R (get_or ks j d) (get_or (set ls t m) j d)) (sym e) (subst (R (get_or ks t d)) (sym (get_or-set_same ls t m d lt)) (here d))
  | inr ne ↦ subst (R (get_or ks i d)) (sym (get_or-set_other ls t i m d ne)) (done i d (omega arith))
]

-- Those after it are as they were.
pub left-set : (ks ls : List ReplicaWorker) (t : ℕ) (m : ReplicaWorker)
    → ((i : ℕ) (d : ReplicaWorker) → t ≤ i → get_or ls i d ≡ get_or ks i d) → (i : ℕ) (d : ReplicaWorker) → t + 1 ≤ i
    → get_or (set ls t m) i d ≡ get_or ks i d
left-set ks ls t m left i d le = get_or-set_other ls t i m d (λ q. omega (arith, q, le)) ∙ left i d (omega arith)

-- ---- one worker has gone on

none-of : (t u : ℕ) (es : List Event) → (t ≢ u) → AllOf u es → events_of t es ≡ []
none-of t u [] ne h = refl
none-of t u (e ∷ es) ne h =
    ap (λ b. cond b (e ∷ events_of t es) (events_of t es)) (ne_eqb e.by t (λ q. ne (sym q ∙ h.0))) ∙ none-of t u es ne h.1

module _ (p : Codes) (w x : Opening × List Event) (ks : List ReplicaWorker) (at : ℕ) (m : ReplicaWorker) (lt : at < length ks)
    (others : StaysOverOthers) (moved : (d : ReplicaWorker) → Moved p w (get_or ks at d) x m) where
  module _ (l : Limits) (f : Outcomes) (c : IsCrew p l f w ks) where
    here : (d : ReplicaWorker) → IsMember x.0 p l f x.1 at m
    here d =
        let v = moved d in let h = c.members at d lt in
        record {
          at = record { kept = v.kept f h.at.kept; thread = v.same.thread ∙ h.at.thread; limits = v.same.limits ∙ h.at.limits };
          own = v.own h.own;
          idle = v.idle h.idle;
        }

    there : (i : ℕ) (d : ReplicaWorker) → i < length ks → (i ≢ at) → IsMember x.0 p l f x.1 i (get_or ks i d)
    there i d li ne =
        let v = moved d in let h = c.members i d li in let k = get_or ks i d in
        let none : events_of k.recorder.thread v.grew.more ≡ [] =
        none-of k.recorder.thread (get_or ks at d).recorder.thread v.grew.more
        (λ q. ne (sym h.at.thread ∙ q ∙ (c.members at d lt).at.thread)) v.grew.all_own in
        let kept : IsKept w.0 p f x.1 k = subst (λ es. IsKept w.0 p f es k) (sym v.grew.is) (others w.0 p f w.1 v.grew.more k none h.at.kept) in
        record {
          at = record { kept = subst (λ o. IsKept o p f x.1 k) (sym v.opening) kept; thread = h.at.thread; limits = h.at.limits };
          own = h.own;
          idle = h.idle;
        }

  -- The crew goes on.
  pub crew-moved : StaysCrew p w ks x (set ks at m)
  crew-moved = record {
    many = length-set ks at m;
    opening = (moved m).«opening»;
    crew = λ l f c. record {
      many = length-set ks at m ∙ c.many ∙ sym (ap (λ o. o.threads) (moved m).«opening»);
      members = λ i d less.
          let li : i < length ks = subst (λ n. i < n) (length-set ks at m) less in
          elim (cases_eq i at) as (λ z. IsMember x.0 p l f x.1 i (get_or (set ks at m) i d)) [
            | inl e ↦ subst (λ j. IsMember x.0 p l f x.1 j (get_or (set ks at m) j d)) (sym e)
                (subst (IsMember x.0 p l f x.1 at) (sym (get_or-set_same ks at m d lt)) (here l f c d))
            | inr ne ↦ subst (IsMember x.0 p l f x.1 i) (sym (get_or-set_other ks at i m d ne)) (there l f c i d li ne)
          ];
    };
  }

pub stays-refl : (p : Codes) (w : Opening × List Event) (ks : List ReplicaWorker) → StaysCrew p w ks w ks
stays-refl p w ks = record { many = refl; opening = refl; crew = λ l f c. c }

pub stays-then : (p : Codes) (w x y : Opening × List Event) (ks ls ms : List ReplicaWorker) → StaysCrew p w ks x ls → StaysCrew p x ls y ms → StaysCrew p w ks y ms
stays-then p w x y ks ls ms a b = record { many = b.many ∙ a.many; opening = b.opening ∙ a.opening; crew = λ l f c. b.crew l f (a.crew l f c) }

-- ---- a run that is over

given-own : (o : Opening) (seen : List Entry) (ms : List ReplicaWorker) (i : ℕ) (e : End) → is_given e ≡ false → Given o seen ms i e
given-own o seen ms i Halted h = absurd (let z : false ≡ true = sym h in cc)
given-own o seen ms i (Deadlocked a) h = absurd (let z : false ≡ true = sym h in cc)
given-own o seen ms i e h = tt

module _ (p : Codes) (l : Limits) (f : Outcomes) (w : Opening × List Event) (ks ms : List ReplicaWorker) (c : IsCrew p l f w ks) where
  pub over-halted : IsStopped ks → AreEach IsHalted ks ms → IsOver p l f w ms
  over-halted s e = record {
    many = e.many ∙ c.many;
    workers = λ i d lt.
        let li : i < length ks = subst (λ n. i < n) e.many lt in let h = (c.members i d li).at in let z = e.each i d li in
        record { kept = z.stays p f w.0 w.1 h.kept; thread = ap (λ r. r.thread) z.is ∙ h.thread; limits = ap (λ r. r.limits) z.is ∙ h.limits };
    ended = λ i d lt.
        let z = e.each i d (subst (λ n. i < n) e.many lt) in ap (λ r. is_some r.«end») z.is ∙ halted-ended (get_or ks i d).recorder.«end»;
    given = λ i d lt g q.
        let li : i < length ks = subst (λ n. i < n) e.many lt in let k = (get_or ks i d).recorder in
        let q' : halted_end k.«end» ≡ Some g = sym (ap (λ r. r.«end») (e.each i d li).is) ∙ q in
        let P : Option End → Type 0 = λ o. k.«end» ≡ o → halted_end o ≡ Some g → Given w.0 (history_in w.1) ms i g in
        let go : (o : Option End) → P o = λ o. elim o as P [
          | None ↦ λ a b. let h : Halted ≡ g = cc in subst (Given w.0 (history_in w.1) ms i) h (record {
            other = s.0;
            differs = λ z. let st = s.1.1 d in let bad : Some st.0 ≡ None = sym st.1 ∙ ap (λ j. (get_or ks j d).recorder.«end») z ∙ a in absurd cc;
            stopped = (subst (λ n. s.0 < n) (sym e.many) s.1.0, λ b. subst Stops (sym (e.each s.0 b s.1.0).is) (stops-halted (get_or ks s.0 b).recorder (s.1.1 b)));
          })
          | Some y ↦ λ a b. let h : y ≡ g = cc in subst (Given w.0 (history_in w.1) ms i) h
              (given-own w.0 (history_in w.1) ms i y ((c.members i d li).own y a))
        ] in go k.«end» refl q';
  }

  pub over-locked : Numbered (λ _ k. k.recorder.«end» ≡ None → Wanting w.0 (history_in w.1) k.recorder) ks → NoneStops ks
      → AreEach IsLocked ks ms → IsOver p l f w ms
  over-locked want quiet e = record {
    many = e.many ∙ c.many;
    workers = λ i d lt.
        let li : i < length ks = subst (λ n. i < n) e.many lt in let h = (c.members i d li).at in let z = e.each i d li in
        record { kept = z.stays p f w.0 w.1 h.kept; thread = ap (λ r. r.thread) z.is ∙ h.thread; limits = ap (λ r. r.limits) z.is ∙ h.limits };
    ended = λ i d lt.
        let li : i < length ks = subst (λ n. i < n) e.many lt in let k = (get_or ks i d).recorder in
        ap (λ r. is_some r.«end») (e.each i d li).is ∙ locked-ended k.wish k.«end» (λ q. let v = want i d li q in (v.action, v.wish_is));
    given = λ i d lt g q.
        let li : i < length ks = subst (λ n. i < n) e.many lt in let k = (get_or ks i d).recorder in
        let q' : locked_end k.wish k.«end» ≡ Some g = sym (ap (λ r. r.«end») (e.each i d li).is) ∙ q in
        let all : Numbered (λ _ m. (g : End) → m.recorder.«end» ≡ Some g → settles g ≡ true) ms = λ j b lj y qj.
        let ll : j < length ks = subst (λ n. j < n) e.many lj in let r = (get_or ks j b).recorder in
        locked-settles r.wish r.«end» y (λ z. let v = want j b ll z in (v.action, v.wish_is))
        (λ z a. ((c.members j b ll).own z a, quiet j b ll z a)) (sym (ap (λ z. z.«end») (e.each j b ll).is) ∙ qj) in
        let P : Option End → Type 0 = λ o. k.«end» ≡ o → locked_end k.wish o ≡ Some g → Given w.0 (history_in w.1) ms i g in
        let go : (o : Option End) → P o = λ o. elim o as P [
          | None ↦ λ a b. let v = want i d li a in
              let h : Deadlocked v.action ≡ g =
              (let z : Some (Deadlocked v.action) ≡ Some g = ap (λ y. locked_end y None) (sym v.wish_is) ∙ b in cc) in
              subst (Given w.0 (history_in w.1) ms i) h
              (subst (λ t. reply w.0 (history_in w.1) t v.action ≡ None) (c.members i d li).at.thread v.none, all)
          | Some y ↦ λ a b. let h : y ≡ g = (let z : Some y ≡ Some g = locked-some k.wish y ∙ b in cc) in
              subst (Given w.0 (history_in w.1) ms i) h (given-own w.0 (history_in w.1) ms i y ((c.members i d li).own y a))
        ] in go k.«end» refl q';
  }

pub over-ended : (p : Codes) (l : Limits) (f : Outcomes) (w : Opening × List Event) (ks : List ReplicaWorker) → IsCrew p l f w ks
    → Numbered (λ _ k. is_some k.recorder.«end» ≡ true) ks → IsOver p l f w ks
over-ended p l f w ks c ended = record {
  many = c.many;
  workers = λ i d lt. (c.members i d lt).at;
  ended = ended;
  given = λ i d lt g q. given-own w.0 (history_in w.1) ks i g ((c.members i d lt).own g q);
}

-- ---- its journal

abbrev pub journal_with : Limits → List Strand → List Event → ReplicaJournal
journal_with l strands events =
    record { threads = l.threads; budget = l.budget; actions = l.actions; strands = strands; events = events }

settled-strand : (o : Option End) → ((g : End) → o ≡ Some g → settles g ≡ true) → is_some o ≡ true → settles (end_or o) ≡ true
settled-strand o h s = let e = some-is o s in ap (λ y. settles (end_or y)) e.1 ∙ h e.0 e.1

-- The journal of a run that is over is sound.
module _ (p : Codes) (l : Limits) (all : ℕ → Outcomes) (w : Opening × List Event) (ms : List ReplicaWorker) (o : IsOver p l (all l.budget) w ms) where
  abbrev pub journal : ReplicaJournal
  journal = journal_with l (strands_of (all l.budget) ms) w.1

  strand-at : StrandsAreSound → (i : ℕ) (d : ReplicaWorker) → i < length ms
      → IsReplicaStrand w.0 i l.actions (history_in w.1) (all l.budget i) (strand_of (all l.budget) (get_or ms i d).recorder)
  strand-at sound i d lt =
      let k = get_or ms i d in let h = o.workers i d lt in let f = all l.budget in
      subst (λ t. IsReplicaStrand w.0 t l.actions (history_in w.1) (f t) (strand_of f k.recorder)) h.thread
      (subst (λ y. IsReplicaStrand w.0 k.recorder.thread y.actions (history_in w.1) (f k.recorder.thread) (strand_of f k.recorder)) h.limits
      (sound w.0 p f w.1 k h.kept (o.ended i d lt)))

  shared : (i : ℕ) (e : End) → Given w.0 (history_in w.1) ms i e → SharedEnd w.0 (as_journal journal) i e
  shared i Halted h = record {
    other = h.other;
    differs = h.differs;
    within = subst (λ n. h.other < n) (sym (length-map ms (λ k. strand_of (all l.budget) k.recorder))) h.stopped.0;
    stopped = λ d. let k = some-of ms h.other h.stopped.0 in let st = h.stopped.1 k in
        ap (λ z. stops z.«end») (get_or-map (λ (k : ReplicaWorker). strand_of (all l.budget) k.recorder) ms h.other k d h.stopped.0)
        ∙ ap (λ y. stops (end_or y)) st.1 ∙ st.2;
  }
  shared i (Deadlocked a) h = (
    h.0,
    numbered-map (λ (k : ReplicaWorker). strand_of (all l.budget) k.recorder)
        (λ u k. ((g : End) → k.recorder.«end» ≡ Some g → settles g ≡ true) × (is_some k.recorder.«end» ≡ true)) (λ u s. settles s.«end» ≡ true)
        (λ u k q. settled-strand k.recorder.«end» q.0 q.1) ms (λ u d lt. (h.1 u d lt, o.ended u d lt)),
  )
  shared i (Ended v) h = tt
  shared i (Fault c q) h = tt
  shared i Budget h = tt
  shared i ActionsFull h = tt
  shared i (Exit v) h = tt

  pub over-sound : StrandsAreSound → RunsDeliver → IsReplicaRun w.0 w.1 → AreWellFormed w.0 (history_in w.1) → l.threads ≡ w.0.threads
      → IsSoundReplica w.0 all journal
  over-sound sound delivers run formed same = record {
    threads = same;
    many = length-map ms (λ k. strand_of (all l.budget) k.recorder) ∙ o.many;
    run = run;
    formed = formed;
    delivers = delivers w.0 w.1 run (λ t lt.
        let li : t < length ms = subst (λ n. t < n) (sym o.many) lt in let d = some-of ms t li in
        let h = o.workers t d li in subst (λ u. AreDeliveredBy w.0.threads u w.1) h.thread h.kept.delivers);
    strands =
        numbered-map (λ (k : ReplicaWorker). strand_of (all l.budget) k.recorder)
        (λ i k. IsReplicaStrand w.0 i l.actions (history_in w.1) (all l.budget i) (strand_of (all l.budget) k.recorder))
        (λ i s. IsReplicaStrand w.0 i l.actions (history_in w.1) (all l.budget i) s) (λ i k q. q) ms (strand-at sound);
    ends =
        numbered-map (λ (k : ReplicaWorker). strand_of (all l.budget) k.recorder)
        (λ i k. SharedEnd w.0 (as_journal journal) i (end_or k.recorder.«end»)) (λ i s. SharedEnd w.0 (as_journal journal) i s.«end») (λ i k q. q) ms
        (λ i d lt. let e = some-is (get_or ms i d).recorder.«end» (o.ended i d lt) in
        subst (λ z. SharedEnd w.0 (as_journal journal) i (end_or z)) (sym e.1) (shared i e.0 (o.given i d lt e.0 e.1)));
  }

  -- A strand of it that ends by its budget has had it.
  pub over-spent : StrandsAreSound → ((t : ℕ) → t < w.0.threads → IsSource w.0 l.budget (all l.budget t))
      → AreSpent l.budget (strands_of (all l.budget) ms)
  over-spent sound sources =
      numbered-map (λ (k : ReplicaWorker). strand_of (all l.budget) k.recorder)
      (λ i k. (end_or k.recorder.«end» ≡ Budget) → (strand_of (all l.budget) k.recorder).ticks ≡ l.budget) (λ i s. s.«end» ≡ Budget → s.ticks ≡ l.budget)
      (λ i k q. q) ms (λ i d lt e.
      let s = strand_of (all l.budget) (get_or ms i d).recorder in let k = strand-at sound i d lt in
      let last : Outcome = all l.budget i (replies_of s.items) in
      k.conforms.ticks ∙ ap (λ x. strand_ticks x s.items last.ticks) e
      ∙ (sources i (subst (λ n. i < n) o.many lt)).spends (replies_of s.items) (subst (OwnEnd l.actions last.«end» s.items) e k.«end»))
