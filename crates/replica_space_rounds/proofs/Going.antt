-- What a round makes of a crew.
use Rattle.std.proofs.Common.{◌≡◌, ℕ, ◌+◌, ◌<◌, false, List, [], ◌++◌, length, map, take, drop, refl, sym, ap, subst, ◌∙◌, append-nil, arith, get_or, inl, inr}
use Rattle.std.proofs.lemmas.List.{drop_all, get_or-map, length-map, take_all}
use mathlib.Core.List.{IsPrefix}
use Rattle.upc_values.specs.Lists.{Numbered}
use Rattle.upc_values.specs.Openings.{Opening}
use Rattle.stack_code.specs.layer.Codes.{Codes}
use Rattle.turn_cell.specs.declared.seat.Seat.{Seat}
use Rattle.turn_cell.specs.layer.Seats.{TableId, AreFree, AreNew, HasAll, seen_of}
use Rattle.replica_space.specs.declared.event.Event.{Event}
use Rattle.upc_task.specs.declared.limits.Limits.{Limits}
use Rattle.upc_task.specs.layer.Sources.{Outcomes}
use Rattle.upc_task.proofs.Lists.{numbered-map, some-of}
use Rattle.upc_task.proofs.Options.{none-some, some-is}
use Rattle.upc_rounds_base.specs.layer.Ending.{HasOwnEnd, IsIdle, Rested}
use Rattle.replica_space_tasks.specs.declared.worker.ReplicaWorker.{ReplicaWorker}
use Rattle.replica_space_tasks.specs.layer.Kept.{IsKept, events_of}
use Rattle.replica_space_crews.specs.layer.Crews.{IsCrew, IsMember, StaysCrew}
use Rattle.replica_space_parts.specs.declared.part.Part.{Part}
use Rattle.replica_space_parts.specs.declared.seated.Seated.{Seated}
use Rattle.replica_space_parts.specs.layer.Parts.{added_in, begun_of}
use Rattle.replica_space_parts.specs.layer.Seated.{IsSeated, Did, Went}
use Rattle.replica_space_parts.proofs.Parts.{begun-events, kept-entered}
use Rattle.replica_space_rounds.specs.layer.Rounds.{HasGone, Played, seat_of, worker_of, workers_of}
use Rattle.replica_space_rounds.proofs.Owning.{played-over, played-took}
use Rattle.replica_space_rounds.proofs.Places.{free-from, has-at, new-at, none-seen, seated-did, seated-new, thread-did, worker-at}
use Rattle.replica_space_rounds.proofs.Resting.{gone-round}

-- A slice of all of a vector that is given back with as many members.
pub given-back : {X : Type 0} (n : ℕ) (xs ys : List X) → length ys ≡ length xs → n ≡ length xs → take n (ys ++ drop (length ys) xs) ≡ ys
given-back n xs ys h e =
    ap (λ l. take n (ys ++ l)) (drop_all (length ys) xs (omega (arith, h))) ∙ ap (take n) (append-nil ys)
    ∙ take_all n ys (omega (arith, e, h))

-- What a round makes of one worker.
record Gone (c : Codes) (l : Limits) (f : Outcomes) (w : Opening × List Event) (part : List Event) (i : ℕ) (k m : ReplicaWorker)
    : Type 0 where
  member : IsMember w.0 c l f (w.1 ++ part) i m
  played : Played w.0 f i w.1 part k m

-- A round over the run w, at the cell z: the workers at ps became those at qs, and the cell was closed with v.
module _ (z : TableId) (x : Part) (c : Codes) (w : Opening × List Event) (v : Part) (ps qs : List Seated) (many : length qs ≡ length ps)
    (did : (i : ℕ) (d : Seated) → i < length ps → Did z x c (get_or ps i d) (get_or qs i d))
    (fine : Numbered (λ _ (m : Seated). m.failed ≡ false) qs) where
  fine-at : (i : ℕ) (d : Seated) → i < length ps → (get_or qs i d).failed ≡ false
  fine-at i d lt = fine i d (subst (λ n. i < n) (sym many) lt)

  rested-at : (i : ℕ) (d : Seated) → i < length qs → Rested (get_or qs i d).worker.recorder
  rested-at i d lt =
      let li : i < length ps = subst (λ n. i < n) many lt in
      elim ((did i d li).did (fine-at i d li)) [
        | inl t ↦ t.1.rested
        | inr e ↦ subst (λ (s : Seated). Rested s.worker.recorder) (sym e.1)
            (λ q. let s = some-is (get_or ps i d).worker.recorder.«end» e.0 in
            absurd (none-some (get_or ps i d).worker.recorder.«end» s.0 q s.1))
      ]

  pub all-rested : Numbered (λ _ (m : ReplicaWorker). Rested m.recorder) (workers_of qs)
  all-rested =
      numbered-map worker_of (λ _ (s : Seated). Rested s.worker.recorder) (λ _ (m : ReplicaWorker). Rested m.recorder) (λ i s h. h) qs
      rested-at

  module _ (new : AreNew z x 0 (map seat_of ps)) (opening : x.run.0 ≡ w.0) (events : x.run.1 ≡ w.1) (whole : length x.run.1 ≡ x.before)
      (closed : begun_of v ≡ x) (has : HasAll (λ (e : Event). e.by) (added_in v) (map seat_of qs)) where
    abbrev part : List Event
    part = added_in v

    new-events : v.run.1 ≡ w.1 ++ part
    new-events = begun-events x v closed ∙ ap (λ l. l ++ part) events

    new-opening : v.run.0 ≡ w.0
    new-opening = ap (λ (q : Part). q.run.0) closed ∙ opening

    module _ (l : Limits) (f : Outcomes) (crew : IsCrew c l f w (workers_of ps)) where
      member-at : (i : ℕ) (d : Seated) → i < length ps → IsMember w.0 c l f w.1 i (get_or ps i d).worker
      member-at i d lt = worker-at (IsMember w.0 c l f w.1) ps crew.members i d lt

      after-at : (i : ℕ) (d : Seated) → i < length ps → IsSeated z x c f (get_or qs i d)
      after-at i d lt =
          seated-did z x c f (get_or ps i d) (get_or qs i d) (did i d lt) (fine-at i d lt)
          (seated-new z x c l f w ps crew new opening events whole i d lt)

      number-at : (i : ℕ) (d : Seated) → i < length ps → (get_or qs i d).worker.recorder.thread ≡ i
      number-at i d lt =
          thread-did z x c (get_or ps i d) (get_or qs i d) (did i d lt) (fine-at i d lt) ∙ (member-at i d lt).at.thread

      begins-at : (i : ℕ) (d : Seated) → i < length ps → IsPrefix (seen_of (get_or qs i d).seat) part
      begins-at i d lt = (has-at part qs i d (subst (λ n. i < n) (sym many) lt) has).0

      own-at : (i : ℕ) (d : Seated) → i < length ps → events_of i part ≡ events_of i (seen_of (get_or qs i d).seat)
      own-at i d lt =
          let m = get_or qs i d in let s = after-at i d lt in
          subst (λ j. events_of j part ≡ events_of j (seen_of m.seat)) (s.number ∙ number-at i d lt)
          ((has-at part qs i d (subst (λ n. i < n) (sym many) lt) has).1 ∙ s.free.0.2)

      kept-at : (i : ℕ) (d : Seated) → i < length ps
          → IsKept w.0 c f (w.1 ++ seen_of (get_or qs i d).seat) (get_or qs i d).worker
      kept-at i d lt =
          let m = get_or qs i d in
          subst (λ o. IsKept o c f (w.1 ++ seen_of m.seat) m.worker) opening
          (subst (λ es. IsKept x.run.0 c f (es ++ seen_of m.seat) m.worker) events (after-at i d lt).kept)

      gone-at : (i : ℕ) (d : Seated) → i < length ps
          → Gone c l f w part i (get_or ps i d).worker (get_or qs i d).worker
      gone-at i d lt =
          let k = get_or ps i d in let m = get_or qs i d in let h = member-at i d lt in let seen = seen_of m.seat in
          let b = begins-at i d lt in let own = own-at i d lt in let number = number-at i d lt in let kept = kept-at i d lt in
          let all : IsKept w.0 c f (w.1 ++ part) m.worker = kept-entered w.0 c f i w.1 seen part m.worker b own number kept in
          elim ((did i d lt).did (fine-at i d lt)) [
            | inl t ↦ record {
              member = record {
                at = record { kept = all; thread = number; limits = t.1.same.limits ∙ h.at.limits };
                own = t.1.own;
                idle = t.1.idle;
              };
              played = played-took w.0 c f i w.1 seen part k.worker m.worker b own h.at.thread number h.at.kept kept t.0
                  (t.1.stays f (seated-new z x c l f w ps crew new opening events whole i d lt))
                  (subst (λ o. Went o (w.1 ++ seen) k.worker.recorder m.worker.recorder) opening
                  (subst (λ es. Went x.run.0 (es ++ seen) k.worker.recorder m.worker.recorder) events t.1.went));
            }
            | inr e ↦
                let same : m.worker ≡ k.worker = ap worker_of e.1 in
                let unseen : seen ≡ [] =
                ap (λ (s : Seated). seen_of s.seat) e.1 ∙ none-seen z x (0 + i) k.seat (new-at z x 0 ps i d lt new) in
                record {
                  member = record {
                    at = record { kept = all; thread = number; limits = ap (λ (n : ReplicaWorker). n.recorder.limits) same ∙ h.at.limits };
                    own = subst (λ (n : ReplicaWorker). HasOwnEnd n.recorder) (sym same) h.own;
                    idle = subst (λ (n : ReplicaWorker). IsIdle n.recorder) (sym same) h.idle;
                  };
                  played = played-over w.0 f i w.1 part k.worker m.worker e.0 same (own ∙ ap (events_of i) unseen);
                }
          ]

      members : Numbered (IsMember w.0 c l f (w.1 ++ part)) (workers_of qs)
      members =
          numbered-map worker_of (λ i (s : Seated). IsMember w.0 c l f (w.1 ++ part) i s.worker)
          (IsMember w.0 c l f (w.1 ++ part)) (λ i s h. h) qs
          (λ i d lt. (gone-at i d (subst (λ n. i < n) many lt)).member)

      same-many : length (workers_of qs) ≡ length (workers_of ps)
      same-many = length-map qs worker_of ∙ many ∙ sym (length-map ps worker_of)

      crew-now : IsCrew c l f v.run (workers_of qs)
      crew-now = record {
        many = same-many ∙ crew.many ∙ sym (ap (λ o. o.threads) new-opening);
        members = subst (λ o. Numbered (IsMember o c l f v.run.1) (workers_of qs)) (sym new-opening)
            (subst (λ es. Numbered (IsMember w.0 c l f es) (workers_of qs)) (sym new-events) members);
      }

      -- It has gone by rounds where it had.
      pub crew-gone : HasGone w.0 f w.1 (workers_of ps) → HasGone v.run.0 f v.run.1 (workers_of qs)
      crew-gone g =
          subst (λ o. HasGone o f v.run.1 (workers_of qs)) (sym new-opening)
          (subst (λ es. HasGone w.0 f es (workers_of qs)) (sym new-events)
          (gone-round w.0 f w.1 part (workers_of ps) (workers_of qs) same-many (λ i d lt. (members i d lt).own) played g))
        where
          played : (i : ℕ) (d : ReplicaWorker) → i < length (workers_of ps)
              → Played w.0 f i w.1 part (get_or (workers_of ps) i d) (get_or (workers_of qs) i d)
          played i d lt =
              let li : i < length ps = subst (λ n. i < n) (length-map ps worker_of) lt in
              let lq : i < length qs = subst (λ n. i < n) (sym many) li in
              let e = some-of ps i li in
              subst (λ k. Played w.0 f i w.1 part k (get_or (workers_of qs) i d)) (sym (get_or-map worker_of ps i e d li))
              (subst (Played w.0 f i w.1 part (get_or ps i e).worker) (sym (get_or-map worker_of qs i e d lq))
              (gone-at i e li).played)

    -- The crew goes on.
    pub crew-goes : StaysCrew c w (workers_of ps) v.run (workers_of qs)
    crew-goes = record {
      many = length-map qs worker_of ∙ many ∙ sym (length-map ps worker_of);
      opening = new-opening;
      crew = crew-now;
    }

-- ---- the whole round

-- The cell z, whose part began with x, has a place for each of the workers of the run w.
pub record Starts (z : TableId) (x : Part) (w : Opening × List Event) (ks : List ReplicaWorker) (ps : List Seated) : Type 0 where
  pub new : AreNew z x 0 (map seat_of ps)
  pub opening : x.run.0 ≡ w.0
  pub events : x.run.1 ≡ w.1
  pub whole : length x.run.1 ≡ x.before
  pub workers : workers_of ps ≡ ks

pub starts-of : (z : TableId) (s : Part) (w : Opening × List Event) (n : ℕ) (ks : List ReplicaWorker) (ps : List Seated)
    (free : List (Seat Part Event Part)) → s ≡ record { run = w; before = n } → n ≡ length w.1
    → AreNew z (begun_of (record { run = w; before = n })) 0 free → map seat_of ps ≡ free → workers_of ps ≡ ks
    → Starts z (begun_of s) w ks ps
starts-of z s w n ks ps free is many new seats workers =
    let all : take n w.1 ≡ w.1 = take_all n w.1 (omega (arith, many)) in record {
      new = subst (λ y. AreNew z (begun_of y) 0 (map seat_of ps)) (sym is)
          (subst (AreNew z (begun_of (record { run = w; before = n })) 0) (sym seats) new);
      opening = ap (λ (q : Part). q.run.0) is;
      events = subst (λ y. (begun_of y).run.1 ≡ w.1) (sym is) all;
      whole = subst (λ y. length (begun_of y).run.1 ≡ (begun_of y).before) (sym is) (ap length all ∙ sym many);
      workers = workers;
    }

pub many-places : (z : TableId) (x : Part) (w : Opening × List Event) (ks : List ReplicaWorker) (ps : List Seated) → Starts z x w ks ps
    → length ps ≡ length ks
many-places z x w ks ps s = sym (length-map ps worker_of) ∙ ap length s.workers

pub all-seated : (z : TableId) (x : Part) (c : Codes) (l : Limits) (f : Outcomes) (w : Opening × List Event) (ks : List ReplicaWorker)
    (ps : List Seated) → Starts z x w ks ps → IsCrew c l f w ks → (i : ℕ) (d : Seated) → i < length ps → IsSeated z x c f (get_or ps i d)
all-seated z x c l f w ks ps s crew =
    seated-new z x c l f w ps (subst (IsCrew c l f w) (sym s.workers) crew) s.new s.opening s.events s.whole

-- The seats with which the cell is closed.
pub all-free : (z : TableId) (x : Part) (c : Codes) (l : Limits) (f : Outcomes) (w : Opening × List Event) (ks : List ReplicaWorker)
    (ps qs : List Seated) → Starts z x w ks ps → IsCrew c l f w ks → length qs ≡ length ps
    → ((i : ℕ) (d : Seated) → i < length ps → Did z x c (get_or ps i d) (get_or qs i d))
    → Numbered (λ _ (m : Seated). m.failed ≡ false) qs → AreFree (λ (e : Event). e.by) z 0 (map seat_of qs)
all-free z x c l f w ks ps qs s crew many did fine =
    free-from z x c f 0 qs (λ i d lt.
    let li : i < length ps = subst (λ n. i < n) many lt in let k = get_or ps i d in let m = get_or qs i d in
    let number : i ≡ 0 + i = omega arith in
    let member = worker-at (IsMember w.0 c l f w.1) ps (subst (λ ys. Numbered (IsMember w.0 c l f w.1) ys) (sym s.workers) crew.members) i d li in (
      seated-did z x c f k m (did i d li) (fine i d lt) (all-seated z x c l f w ks ps s crew i d li),
      thread-did z x c k m (did i d li) (fine i d lt) ∙ member.at.thread ∙ number,
    ))

module _ (z : TableId) (x : Part) (c : Codes) (w : Opening × List Event) (v : Part) (ks ms : List ReplicaWorker) (ps qs : List Seated)
    (s : Starts z x w ks ps) (many : length qs ≡ length ps)
    (did : (i : ℕ) (d : Seated) → i < length ps → Did z x c (get_or ps i d) (get_or qs i d))
    (fine : Numbered (λ _ (m : Seated). m.failed ≡ false) qs) (is : ms ≡ workers_of qs) where
  pub round-rested : Numbered (λ _ (m : ReplicaWorker). Rested m.recorder) ms
  round-rested =
      subst (Numbered (λ _ (m : ReplicaWorker). Rested m.recorder)) (sym is) (all-rested z x c w v ps qs many did fine)

  module _ (closed : begun_of v ≡ x) (has : HasAll (λ (e : Event). e.by) (added_in v) (map seat_of qs)) where
    pub round-goes : StaysCrew c w ks v.run ms
    round-goes =
        subst (λ ys. StaysCrew c w ys v.run ms) s.workers (subst (StaysCrew c w (workers_of ps) v.run) (sym is)
        (crew-goes z x c w v ps qs many did fine s.new s.opening s.events s.whole closed has))

    pub round-gone : (l : Limits) (f : Outcomes) → IsCrew c l f w ks → HasGone w.0 f w.1 ks → HasGone v.run.0 f v.run.1 ms
    round-gone l f crew gone =
        subst (HasGone v.run.0 f v.run.1) (sym is)
        (crew-gone z x c w v ps qs many did fine s.new s.opening s.events s.whole closed has l f
        (subst (IsCrew c l f w) (sym s.workers) crew) (subst (HasGone w.0 f w.1) (sym s.workers) gone))
