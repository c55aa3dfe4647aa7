-- Workers at the seats of a cell: at new seats, and where the cell is closed.
use Rattle.std.proofs.Common.{◌≡◌, ℕ, zero, suc, ◌+◌, ◌<◌, false, List, [], ◌∷◌, ◌++◌, length, map, Some, refl, sym, ap, subst, ◌∙◌, append-nil, arith, get_or, inl, inr}
use Rattle.std.proofs.lemmas.List.{get_or-map, length-map}
use mathlib.Core.List.{IsPrefix}
use Rattle.upc_values.specs.Lists.{Numbered}
use Rattle.upc_values.specs.Openings.{Opening}
use Rattle.stack_code.specs.layer.Codes.{Codes}
use Rattle.turn_cell.specs.declared.seat.Seat.{Seat}
use Rattle.turn_cell.specs.layer.Members.{of}
use Rattle.turn_cell.specs.layer.Seats.{part, TableId, AreFree, AreNew, HasAll, IsFree, IsNew, first_number, first_own, number_of, opening_of, own_of, seen_of}
use Rattle.replica_space.specs.declared.event.Event.{Event}
use Rattle.upc_task.specs.declared.limits.Limits.{Limits}
use Rattle.upc_task.specs.layer.Sources.{Outcomes}
use Rattle.replica_space_tasks.specs.declared.worker.ReplicaWorker.{ReplicaWorker}
use Rattle.replica_space_tasks.specs.layer.Kept.{IsKept, events_of}
use Rattle.replica_space_crews.specs.layer.Crews.{IsCrew, IsMember}
use Rattle.replica_space_parts.specs.declared.part.Part.{Part}
use Rattle.replica_space_parts.specs.declared.seated.Seated.{Seated}
use Rattle.replica_space_parts.specs.layer.Seated.{IsSeated, Did}
use Rattle.replica_space_rounds.specs.layer.Rounds.{seat_of, worker_of, workers_of}

-- ---- new seats

module _ {W M O : Type 0} where
  new-free : (number : M → ℕ) (z : TableId) (o : O) (k : ℕ) (s : Seat W M O) → IsNew z o k s → IsFree number s
  new-free number z o k s h = let is = h.1 in (
    (
      subst (λ m. m.0.parts ≡ part (first_number m.0.parts) (first_own m.0.parts) ∷ []) (sym is) refl,
      ap (λ m. m.0.olds) is,
      subst (λ m. first_own m.0.parts ≡ of number (first_number m.0.parts) m.0.seen) (sym is) refl,
    ),
    ap (λ m. m.0.holds) is,
    ap (λ m. m.1) is,
  )

  new-number : (z : TableId) (o : O) (k : ℕ) (s : Seat W M O) → IsNew z o k s → number_of s ≡ k
  new-number z o k s h = ap (λ m. first_number m.0.parts) h.1

  new-opening : (z : TableId) (o : O) (k : ℕ) (s : Seat W M O) → IsNew z o k s → opening_of s ≡ Some o
  new-opening z o k s h = ap (λ m. m.0.opening) h.1

  new-seen : (z : TableId) (o : O) (k : ℕ) (s : Seat W M O) → IsNew z o k s → seen_of s ≡ []
  new-seen z o k s h = ap (λ m. m.0.seen) h.1

pub new-at : (z : TableId) (x : Part) (k : ℕ) (ps : List Seated) (i : ℕ) (d : Seated) → i < length ps → AreNew z x k (map seat_of ps)
    → IsNew z x (k + i) (get_or ps i d).seat
new-at z x k [] i d lt h = absurd (omega arith)
new-at z x k (p ∷ ps) zero d lt h = let e : k ≡ k + 0 = omega arith in subst (λ j. IsNew z x j p.seat) e h.0
new-at z x k (p ∷ ps) (suc i) d lt h =
    let e : suc k + i ≡ k + suc i = omega arith in
    subst (λ j. IsNew z x j (get_or ps i d).seat) e (new-at z x (suc k) ps i d (omega arith) h.1)

pub none-seen : (z : TableId) (x : Part) (k : ℕ) (s : Seat Part Event Part) → IsNew z x k s → seen_of s ≡ []
none-seen z x k s h = new-seen z x k s h

-- What holds of each worker.
pub worker-at : (P : ℕ → ReplicaWorker → Type 0) (ps : List Seated) → Numbered P (workers_of ps) → (i : ℕ) (d : Seated) → i < length ps
    → P i (get_or ps i d).worker
worker-at P ps h i d lt =
    subst (P i) (get_or-map worker_of ps i d d.worker lt) (h i d.worker (subst (λ n. i < n) (sym (length-map ps worker_of)) lt))

-- A crew at new seats.
pub seated-new : (z : TableId) (x : Part) (c : Codes) (l : Limits) (f : Outcomes) (w : Opening × List Event) (ps : List Seated)
    → IsCrew c l f w (workers_of ps) → AreNew z x 0 (map seat_of ps) → x.run.0 ≡ w.0 → x.run.1 ≡ w.1 → length x.run.1 ≡ x.before
    → (i : ℕ) (d : Seated) → i < length ps → IsSeated z x c f (get_or ps i d)
seated-new z x c l f w ps crew new opening events whole i d lt =
    let k = get_or ps i d in let at = new-at z x 0 ps i d lt new in
    let member : IsMember w.0 c l f w.1 i k.worker = worker-at (IsMember w.0 c l f w.1) ps crew.members i d lt in
    let same : w.1 ≡ x.run.1 ++ seen_of k.seat =
    sym events ∙ sym (append-nil x.run.1) ∙ ap (λ l. x.run.1 ++ l) (sym (new-seen z x (0 + i) k.seat at)) in
    let number : 0 + i ≡ i = omega arith in
    record {
      whole = whole;
      free = new-free (λ (e : Event). e.by) z x (0 + i) k.seat at;
      cell = at.0;
      opened = new-opening z x (0 + i) k.seat at;
      number = new-number z x (0 + i) k.seat at ∙ number ∙ sym member.at.thread;
      kept = subst (λ o. IsKept o c f (x.run.1 ++ seen_of k.seat) k.worker) (sym opening)
          (subst (λ es. IsKept w.0 c f es k.worker) same member.at.kept);
    }

-- ---- after a round

pub seated-did : (z : TableId) (x : Part) (c : Codes) (f : Outcomes) (k m : Seated) → Did z x c k m → m.failed ≡ false → IsSeated z x c f k
    → IsSeated z x c f m
seated-did z x c f k m h fine was = elim (h.did fine) [
  | inl t ↦ t.1.kept f was
  | inr e ↦ subst (IsSeated z x c f) (sym e.1) was
]

pub thread-did : (z : TableId) (x : Part) (c : Codes) (k m : Seated) → Did z x c k m → m.failed ≡ false
    → m.worker.recorder.thread ≡ k.worker.recorder.thread
thread-did z x c k m h fine = elim (h.did fine) [
  | inl t ↦ t.1.same.thread
  | inr e ↦ ap (λ (s : Seated). s.worker.recorder.thread) e.1
]

-- The seats are free, and numbered from k on.
pub free-from : (z : TableId) (x : Part) (c : Codes) (f : Outcomes) (k : ℕ) (qs : List Seated)
    → ((i : ℕ) (d : Seated) → i < length qs
    → IsSeated z x c f (get_or qs i d) × ((get_or qs i d).worker.recorder.thread ≡ k + i))
    → AreFree (λ (e : Event). e.by) z k (map seat_of qs)
free-from z x c f k [] h = tt
free-from z x c f k (q ∷ qs) h =
    let a = h 0 q (omega arith) in let e : k + 0 ≡ k = omega arith in (
      (a.0.cell, a.0.number ∙ a.1 ∙ e, a.0.free),
      free-from z x c f (suc k) qs (λ i d lt.
          let b = h (suc i) d (omega arith) in let e : k + suc i ≡ suc k + i = omega arith in (b.0, b.1 ∙ e)),
    )

-- What a closed cell says of one of them.
pub has-at : (all : List Event) (qs : List Seated) (i : ℕ) (d : Seated) → i < length qs
    → HasAll (λ (e : Event). e.by) all (map seat_of qs)
    → IsPrefix (seen_of (get_or qs i d).seat) all
    × (events_of (number_of (get_or qs i d).seat) all ≡ own_of (get_or qs i d).seat)
has-at all [] i d lt h = absurd (omega arith)
has-at all (q ∷ qs) zero d lt h = h.0
has-at all (q ∷ qs) (suc i) d lt h = has-at all qs i d (omega arith) h.1
