-- A run of tasks: at a step, at its end, and as a journal.
use Rattle.std.proofs.Common.{◌≡◌, ◌≢◌, ℕ, ◌<◌, ◌≤◌, ◌*◌, true, false, List, map, length, Option, Some, None, is_some, refl, sym, ap, subst, ◌∙◌, inl, inr, get_or, set, get_or-set_same, get_or-set_other}
use Rattle.std.proofs.lemmas.Bool.{cases_eq, false≢true}
use Rattle.std.proofs.lemmas.List.{length-set, length-map, get_or-map}
use Rattle.upc_values.specs.declared.action.Action.{Action}
use Rattle.upc_values.specs.declared.record.End.{End}
use Rattle.upc_values.specs.declared.record.End.TheVariants.{Ended, Fault, Budget, ActionsFull, Exit, Halted, Deadlocked}
use Rattle.upc_values.specs.declared.journal.Entry.{Entry}
use Rattle.upc_values.specs.declared.journal.Journal.{Journal}
use Rattle.upc_values.specs.Lists.{Numbered}
use Rattle.upc_values.specs.Drain.{walked}
use Rattle.upc_values.specs.Openings.{Opening}
use Rattle.upc_values.specs.History.{reply, IsLegal, EachBelow}
use Rattle.upc_values.specs.Formed.{AreWellFormed}
use Rattle.upc_values.specs.Ends.{stops, settles, SharedEnd, OwnEnd}
use Rattle.upc_values.specs.Sound.{IsStrand, IsSound}
use Rattle.stack_code.specs.layer.Codes.{Codes}
use Rattle.stack_machine.specs.declared.wish.Wish.{Wish}
use Rattle.stack_machine.specs.declared.wish.Wish.TheVariants.{Act}
use Rattle.upc_task.specs.declared.limits.Limits.{Limits}
use Rattle.upc_task.specs.layer.Kept.{Worker}
use Rattle.upc_task.specs.declared.worker.Pause.{Pause}
use Rattle.upc_task.specs.declared.worker.Pause.TheVariants as pauses
use Rattle.upc_task.specs.layer.Sources.{Outcomes}
use Rattle.upc_task.specs.Ends.{is_given}
use Rattle.upc_task.specs.layer.Kept.{AreLimits, IsKept, IsSame, Grew, Paused, outcome_of, settled, Holds, end_or, strand_of}
use Rattle.upc_rounds_teams.specs.layer.Runs.{IsAt, HasOwnEnd, IsIdle, IsRunning, AreSame, Rested, Stops, Wanting, Given, IsOver, AreEach, halted, halted_end, locked, locked_end, CanLock}
use Rattle.std.proofs.lemmas.List.Sums.{count_by_more_yes, count_by_more_no}
use Rattle.std.proofs.Common.{take, ◌+◌}
use Rattle.std.specs.Prelude.{not}
use Rattle.upc_rounds_teams.specs.layer.Runs.{IsOpenAt, is_open, open_among}
use Rattle.upc_task.proofs.Lists.{numbered-map, both, some-of}
use Rattle.upc_task.proofs.Workers.{kept-grow, kept-ended}

at-grow : (op : Opening) (p : Codes) (src : Outcomes) (i t : ℕ) (seen later : List Entry) (k : Worker) → (i ≢ t) → Grew t seen later → IsAt op p src seen i k → IsAt op p src later i k
at-grow op p src i t seen later k ne g h = record { thread = h.thread; kept = kept-grow op p src t seen later k h.kept (λ q. ne (sym h.thread ∙ q)) g }

pub paused-own : (p : Pause) (k : Worker) → Paused p k → HasOwnEnd k
paused-own pauses.Going k h e q = absurd (let z : Some e ≡ None = sym q ∙ h in cc)
paused-own pauses.Beat k h e q = absurd (let z : Some e ≡ None = sym q ∙ h.0 in cc)
paused-own pauses.Stalled k h e q = absurd (let z : Some e ≡ None = sym q ∙ h.0 in cc)
paused-own pauses.Finished k h e q = let z : h.0 ≡ e = cc in subst (λ f. is_given f ≡ false) z h.2

pub running-set : (op : Opening) (p : Codes) (src : Outcomes) (t : ℕ) (seen later : List Entry) (ks : List Worker) (k : Worker) → IsRunning op p src seen ks → t < length ks → Grew t seen later → IsAt op p src later t k → HasOwnEnd k → IsIdle k → IsRunning op p src later (set ks t k)
running-set op p src t seen later ks k r lt g a o idle = record {
  many = length-set ks t k ∙ r.many;
  tasks = λ i d l. elim (cases_eq i t) as (λ z. IsAt op p src later i (get_or (set ks t k) i d)) [
    | inl e ↦ subst (λ j. IsAt op p src later j (get_or (set ks t k) j d)) (sym e) (subst (IsAt op p src later t) (sym (get_or-set_same ks t k d lt)) a)
    | inr ne ↦ subst (IsAt op p src later i) (sym (get_or-set_other ks t i k d ne)) (at-grow op p src i t seen later (get_or ks i d) ne g (r.tasks i d (subst (λ m. i < m) (length-set ks t k) l)))
  ];
  own = λ i d l. elim (cases_eq i t) as (λ z. HasOwnEnd (get_or (set ks t k) i d)) [
    | inl e ↦ subst (λ j. HasOwnEnd (get_or (set ks t k) j d)) (sym e) (subst HasOwnEnd (sym (get_or-set_same ks t k d lt)) o)
    | inr ne ↦ subst HasOwnEnd (sym (get_or-set_other ks t i k d ne)) (r.own i d (subst (λ m. i < m) (length-set ks t k) l))
  ];
  idle = λ i d l. elim (cases_eq i t) as (λ z. IsIdle (get_or (set ks t k) i d)) [
    | inl e ↦ subst (λ j. IsIdle (get_or (set ks t k) j d)) (sym e) (subst IsIdle (sym (get_or-set_same ks t k d lt)) idle)
    | inr ne ↦ subst IsIdle (sym (get_or-set_other ks t i k d ne)) (r.idle i d (subst (λ m. i < m) (length-set ks t k) l))
  ];
}

-- What f makes of each, where it makes a task that keeps its thread, limit and invariant
each-at : (f : Worker → Worker) (op : Opening) (p : Codes) (src : Outcomes) (seen : List Entry) (ks ms : List Worker) → AreEach f ks ms → ((i : ℕ) (d : Worker) → i < length ks → IsAt op p src seen i (f (get_or ks i d))) → Numbered (λ i k. IsAt op p src seen i k) ms
each-at f op p src seen ks ms e h i d lt = let l : i < length ks = subst (λ m. i < m) e.many lt in subst (IsAt op p src seen i) (sym (e.each i d l)) (h i d l)

same-end : (k : Worker) (o : Option End) → k.«end» ≡ o → k ≡ record k { «end» = o }
same-end k o q = ap (λ z. let m : Worker = record k { «end» = z } in m) q

at-halted : (op : Opening) (p : Codes) (src : Outcomes) (i : ℕ) (seen : List Entry) (k : Worker) → IsAt op p src seen i k → Rested k → IsAt op p src seen i (halted k)
at-halted op p src i seen k a r =
    let go : (o : Option End) → k.«end» ≡ o → IsAt op p src seen i (record k { «end» = halted_end o }) =
    λ o. elim o as (λ o. k.«end» ≡ o → IsAt op p src seen i (record k { «end» = halted_end o })) [
      | None ↦ λ q. record { thread = a.thread; kept = kept-ended op p src seen k Halted a.kept q (r q) }
      | Some e ↦ λ q. subst (IsAt op p src seen i) (same-end k (Some e) q) a
    ] in
    go k.«end» refl

locked-some : (w : Option Wish) (e : End) → Some e ≡ locked_end w (Some e)
locked-some None e = refl
locked-some (Some w) e = refl

at-locked : (op : Opening) (p : Codes) (src : Outcomes) (i : ℕ) (seen : List Entry) (k : Worker) → IsAt op p src seen i k → (k.«end» ≡ None → CanLock k) → IsAt op p src seen i (locked k)
at-locked op p src i seen k a r =
    let go : (o : Option End) → k.«end» ≡ o → IsAt op p src seen i (record k { «end» = locked_end k.wish o }) =
    λ o. elim o as (λ o. k.«end» ≡ o → IsAt op p src seen i (record k { «end» = locked_end k.wish o })) [
      | None ↦ λ q. let c = r q in subst (λ w. IsAt op p src seen i (record k { «end» = locked_end w None })) (sym c.1)
          (record { thread = a.thread; kept = kept-ended op p src seen k (Deadlocked c.0) a.kept q (c.1, c.2) })
      | Some e ↦ λ q. subst (IsAt op p src seen i) (same-end k (Some e) q ∙ ap (λ z. let m : Worker = record k { «end» = z } in m) (locked-some k.wish e)) a
    ] in
    go k.«end» refl

given-own : (op : Opening) (seen : List Entry) (ms : List Worker) (i : ℕ) (e : End) → is_given e ≡ false → Given op seen ms i e
given-own op seen ms i Halted h = absurd (false≢true (sym h))
given-own op seen ms i (Deadlocked a) h = absurd (false≢true (sym h))
given-own op seen ms i e h = tt

halted-ended : (o : Option End) → is_some (halted_end o) ≡ true
halted-ended None = refl
halted-ended (Some e) = refl

stops-halted : (k : Worker) → Stops k → Stops (halted k)
stops-halted k s = (s.0, ap halted_end s.1, s.2)

pub over-halted : (op : Opening) (p : Codes) (src : Outcomes) (seen : List Entry) (ks ms : List Worker) (u : ℕ) → IsRunning op p src seen ks → Numbered (λ j k. Rested k) ks → u < length ks → ((d : Worker) → Stops (get_or ks u d)) → AreEach halted ks ms → IsOver op p src seen ms
over-halted op p src seen ks ms u r rested ul stop e = record {
  many = e.many ∙ r.many;
  tasks = each-at halted op p src seen ks ms e (λ i d l. at-halted op p src i seen (get_or ks i d) (r.tasks i d l) (rested i d l));
  ended = λ i d lt. ap (λ k. is_some k.«end») (e.each i d (subst (λ m. i < m) e.many lt)) ∙ halted-ended (get_or ks i d).«end»;
  given = λ i d lt f q.
      let l : i < length ks = subst (λ m. i < m) e.many lt in let k = get_or ks i d in
      let q' : halted_end k.«end» ≡ Some f = sym (ap (λ z. z.«end») (e.each i d l)) ∙ q in
      let P : Option End → Type 0 = λ o. k.«end» ≡ o → halted_end o ≡ Some f → Given op seen ms i f in
      let go : (o : Option End) → P o = λ o. elim o as P [
        | None ↦ λ a b. let h : Halted ≡ f = cc in subst (Given op seen ms i) h (record {
          other = u;
          differs = λ z. let s = stop d in let bad : Some s.0 ≡ None = sym s.1 ∙ ap (λ j. (get_or ks j d).«end») z ∙ a in absurd cc;
          within = subst (λ m. u < m) (sym e.many) ul;
          stopped = λ d'. subst Stops (sym (e.each u d' ul)) (stops-halted (get_or ks u d') (stop d'));
        })
        | Some g ↦ λ a b. let h : g ≡ f = cc in subst (Given op seen ms i) h (given-own op seen ms i g (r.own i d l g a))
      ] in go k.«end» refl q';
}

own-settles : (e : End) → is_given e ≡ false → stops e ≡ false → settles e ≡ true
own-settles (Ended v) g h = refl
own-settles (Fault c p) g h = absurd (false≢true (sym h))
own-settles Budget g h = absurd (false≢true (sym h))
own-settles ActionsFull g h = absurd (false≢true (sym h))
own-settles (Exit v) g h = absurd (false≢true (sym h))
own-settles Halted g h = absurd (false≢true (sym g))
own-settles (Deadlocked a) g h = refl

locked-ended : (w : Option Wish) (o : Option End) → (o ≡ None → (a : Action) × (w ≡ Some (Act a))) → is_some (locked_end w o) ≡ true
locked-ended w (Some e) h = ap is_some (sym (locked-some w e))
locked-ended w None h = let c = h refl in ap (λ z. is_some (locked_end z None)) c.1

locked-settles : (w : Option Wish) (o : Option End) (f : End) → (o ≡ None → (a : Action) × (w ≡ Some (Act a))) → ((g : End) → o ≡ Some g → (is_given g ≡ false) × (stops g ≡ false)) → locked_end w o ≡ Some f → settles f ≡ true
locked-settles w (Some e) f h k q = let z : Some e ≡ Some f = locked-some w e ∙ q in let y : e ≡ f = cc in let p = k e refl in subst (λ g. settles g ≡ true) y (own-settles e p.0 p.1)
locked-settles w None f h k q = let c = h refl in let z : Some (Deadlocked c.0) ≡ Some f = ap (λ y. locked_end y None) (sym c.1) ∙ q in let y : Deadlocked c.0 ≡ f = cc in subst (λ g. settles g ≡ true) y refl

pub over-locked : (op : Opening) (p : Codes) (src : Outcomes) (seen : List Entry) (ks ms : List Worker) → IsRunning op p src seen ks → Numbered (λ j k. k.«end» ≡ None → Wanting op seen k) ks → Numbered (λ j k. (e : End) → k.«end» ≡ Some e → stops e ≡ false) ks → AreEach locked ks ms → IsOver op p src seen ms
over-locked op p src seen ks ms r want quiet e = record {
  many = e.many ∙ r.many;
  tasks = each-at locked op p src seen ks ms e (λ i d l. at-locked op p src i seen (get_or ks i d) (r.tasks i d l) (λ q. let w = want i d l q in (w.action, w.wish_is, w.stalled)));
  ended = λ i d lt. let l : i < length ks = subst (λ m. i < m) e.many lt in
      ap (λ k. is_some k.«end») (e.each i d l) ∙ locked-ended (get_or ks i d).wish (get_or ks i d).«end» (λ q. let w = want i d l q in (w.action, w.wish_is));
  given = λ i d lt f q.
      let l : i < length ks = subst (λ m. i < m) e.many lt in let k = get_or ks i d in
      let q' : locked_end k.wish k.«end» ≡ Some f = sym (ap (λ z. z.«end») (e.each i d l)) ∙ q in
      let all : Numbered (λ j m. (f : End) → m.«end» ≡ Some f → settles f ≡ true) ms = λ j d' lj f' qj.
      let ll : j < length ks = subst (λ m. j < m) e.many lj in
      locked-settles (get_or ks j d').wish (get_or ks j d').«end» f' (λ z. let w = want j d' ll z in (w.action, w.wish_is))
      (λ g z. (r.own j d' ll g z, quiet j d' ll g z)) (sym (ap (λ z. z.«end») (e.each j d' ll)) ∙ qj) in
      let P : Option End → Type 0 = λ o. k.«end» ≡ o → locked_end k.wish o ≡ Some f → Given op seen ms i f in
      let go : (o : Option End) → P o = λ o. elim o as P [
        | None ↦ λ a b. let w = want i d l a in
            let h : Deadlocked w.action ≡ f = (let z : Some (Deadlocked w.action) ≡ Some f = ap (λ y. locked_end y None) (sym w.wish_is) ∙ b in cc) in
            subst (Given op seen ms i) h (subst (λ t. reply op seen t w.action ≡ None) (r.tasks i d l).thread w.none, all)
        | Some g ↦ λ a b. let h : g ≡ f = (let z : Some g ≡ Some f = locked-some k.wish g ∙ b in cc) in subst (Given op seen ms i) h (given-own op seen ms i g (r.own i d l g a))
      ] in go k.«end» refl q';
}

pub over-ended : (op : Opening) (p : Codes) (src : Outcomes) (seen : List Entry) (ks : List Worker) → IsRunning op p src seen ks → Numbered (λ j k. is_some k.«end» ≡ true) ks → IsOver op p src seen ks
over-ended op p src seen ks r ended = record {
  many = r.many;
  tasks = r.tasks;
  ended = ended;
  given = λ i d lt f q. given-own op seen ks i f (r.own i d lt f q);
}

-- A strand of a task
strand-own : (op : Opening) (p : Codes) (src : Outcomes) (seen : List Entry) (k : Worker) (e : End) → IsKept op p src seen k → k.«end» ≡ Some e
    → IsStrand op k.thread k.limits.actions seen (src k.thread) (strand_of src k)
strand-own op p src seen k e h q =
    let he = h.recorded.ended e q in let ends : end_or k.«end» ≡ e = ap end_or q in
    let hw = subst (λ z. Holds op k.thread seen k.buffer k.next (settled z (walked k.thread k.items.items))) q h.holds in
    record {
      conforms = record { actions = h.recorded.did; stalls = h.recorded.stalls; ticks = refl };
      agrees = hw.agrees;
      drains = hw.out;
      justified = h.justified;
      short = h.recorded.short;
      «end» = subst (OwnEnd k.limits.actions (outcome_of src k).«end» k.items.items) (sym ends) he.own;
    }

some-end : (o : Option End) → is_some o ≡ true → (e : End) × (o ≡ Some e)
some-end None h = absurd (false≢true h)
some-end (Some e) h = (e, refl)

strand-at : (op : Opening) (p : Codes) (src : Outcomes) (l : Limits) (i : ℕ) (seen : List Entry) (k : Worker) → IsAt op p src seen i k → is_some k.«end» ≡ true
    → k.limits ≡ l → IsStrand op i l.actions seen (src i) (strand_of src k)
strand-at op p src l i seen k a h q = let e = some-end k.«end» h in
    subst (λ t. IsStrand op t l.actions seen (src t) (strand_of src k)) a.thread
    (subst (λ m. IsStrand op k.thread m.actions seen (src k.thread) (strand_of src k)) q
    (strand-own op p src seen k e.0 a.kept e.1))

settled-strand : (k : Worker) → ((f : End) → k.«end» ≡ Some f → settles f ≡ true) → is_some k.«end» ≡ true → settles (end_or k.«end») ≡ true
settled-strand k h s = let e = some-end k.«end» s in ap (λ o. settles (end_or o)) e.1 ∙ h e.0 e.1

shared-end : (op : Opening) (src : Outcomes) (j : Journal) (ms : List Worker) (i : ℕ) (k : Worker) (e : End) → j.strands ≡ map (strand_of src) ms
    → Numbered (λ i k. is_some k.«end» ≡ true) ms → Given op j.history ms i e → SharedEnd op j i e
shared-end op src j ms i k Halted s ended h = record {
  other = h.other;
  differs = h.differs;
  within = subst (λ l. h.other < length l) (sym s) (subst (λ m. h.other < m) (sym (length-map ms (strand_of src))) h.within);
  stopped = λ d. let st = h.stopped k in
      ap (λ l. stops (get_or l h.other d).«end») s ∙ ap (λ z. stops z.«end») (get_or-map (strand_of src) ms h.other k d h.within)
      ∙ ap (λ o. stops (end_or o)) st.1 ∙ st.2;
}
shared-end op src j ms i k (Deadlocked a) s ended h = (
  h.0,
  subst (Numbered (λ u s. settles s.«end» ≡ true)) (sym s)
      (numbered-map (strand_of src) (λ u m. ((f : End) → m.«end» ≡ Some f → settles f ≡ true) × (is_some m.«end» ≡ true)) (λ u s. settles s.«end» ≡ true)
      (λ u m p. settled-strand m p.0 p.1) ms (both (λ u m. (f : End) → m.«end» ≡ Some f → settles f ≡ true) (λ u m. is_some m.«end» ≡ true) ms h.1 ended)),
)
shared-end op src j ms i k (Ended v) s ended h = tt
shared-end op src j ms i k (Fault c p) s ended h = tt
shared-end op src j ms i k Budget s ended h = tt
shared-end op src j ms i k ActionsFull s ended h = tt
shared-end op src j ms i k (Exit v) s ended h = tt

-- The journal of a run that is over is sound
pub over-sound : (op : Opening) (p : Codes) (all : ℕ → Outcomes) (l : Limits) (ks ms : List Worker) (j : Journal) → IsOver op p (all l.budget) j.history ms → IsLegal op j.history
    → AreWellFormed op j.history → EachBelow op.threads j.history → AreSame ks ms → Numbered (λ i k. k.limits ≡ l) ks
    → j.threads ≡ op.threads → j.budget ≡ l.budget → j.actions ≡ l.actions → j.strands ≡ map (strand_of (all l.budget)) ms
    → IsSound op all j
over-sound op p all l ks ms j o legal formed below same limits threads budget actions s = let src = all l.budget in record {
  threads = threads;
  many = ap length s ∙ length-map ms (strand_of src) ∙ o.many;
  below = below;
  legal = legal;
  formed = formed;
  strands = subst (λ b. Numbered (λ t s. IsStrand op t j.actions j.history (all b t) s) j.strands) (sym budget)
      (subst (λ n. Numbered (λ t s. IsStrand op t n j.history (src t) s) j.strands) (sym actions)
      (subst (Numbered (λ t s. IsStrand op t l.actions j.history (src t) s)) (sym s)
      (numbered-map (strand_of src) (λ i k. IsAt op p src j.history i k × (is_some k.«end» ≡ true) × (k.limits ≡ l))
      (λ t s. IsStrand op t l.actions j.history (src t) s)
      (λ i k q. strand-at op p src l i j.history k q.0 q.1 q.2) ms
      (λ i d lt. let few : i < length ks = subst (λ m. i < m) same.many lt in
      (o.tasks i d lt, o.ended i d lt, (same.each i d few).limits ∙ limits i d few)))));
  ends = subst (Numbered (λ t s. SharedEnd op j t s.«end»)) (sym s)
      (numbered-map (strand_of src) (λ i k. SharedEnd op j i (end_or k.«end»)) (λ t s. SharedEnd op j t s.«end») (λ i k p. p) ms
      (λ i d lt. let e = some-end (get_or ms i d).«end» (o.ended i d lt) in
      subst (λ z. SharedEnd op j i (end_or z)) (sym e.1) (shared-end op src j ms i d e.0 s o.ended (o.given i d lt e.0 e.1))));
}

pub same-trans : (ks ls ms : List Worker) → AreSame ks ls → AreSame ls ms → AreSame ks ms
same-trans ks ls ms s e = record {
  many = e.many ∙ s.many;
  each = λ i d l. let a = s.each i d l in let b = e.each i d (subst (λ m. i < m) (sym s.many) l) in
      record { thread = b.thread ∙ a.thread; limits = b.limits ∙ a.limits };
}

pub same-refl : (ks : List Worker) → AreSame ks ks
same-refl ks = record { many = refl; each = λ i d l. record { thread = refl; limits = refl } }

-- The same, after ends were given
pub same-each : (f : Worker → Worker) (ks ls ms : List Worker) → ((k : Worker) → IsSame k (f k)) → AreSame ks ls → AreEach f ls ms → AreSame ks ms
same-each f ks ls ms h s e = record {
  many = e.many ∙ s.many;
  each = λ i d l. let a = s.each i d l in let b = h (get_or ls i d) in let q = e.each i d (subst (λ m. i < m) (sym s.many) l) in
      subst (IsSame (get_or ks i d)) (sym q) (record { thread = b.thread ∙ a.thread; limits = b.limits ∙ a.limits });
}

pub limits-of : (l : Limits) → (1 ≤ l.threads) × (l.threads ≤ 32) → (1 ≤ l.budget) × (l.budget ≤ 1000000000000)
    → (1 ≤ l.actions) × (l.threads * l.actions ≤ 8388608) → AreLimits l
limits-of l t b a = record { some = t.0; threads = t.1; ticks = b.0; budget = b.1; items = a.0; all = a.1 }

-- One task more, with and without an end
pub open-more : (ks : List Worker) (i : ℕ) → i < length ks → IsOpenAt ks i → open_among (take (i + 1) ks) ≡ open_among (take i ks) + 1
open-more ks i lt h = let d = some-of ks i lt in count_by_more_yes is_open ks i d lt (ap (λ z. not (is_some z)) (h d))

pub ended-more : (ks : List Worker) (i : ℕ) → i < length ks → ((d : Worker) → is_some (get_or ks i d).«end» ≡ true)
    → open_among (take (i + 1) ks) ≡ open_among (take i ks)
ended-more ks i lt h = let d = some-of ks i lt in count_by_more_no is_open ks i d lt (ap not (h d))
