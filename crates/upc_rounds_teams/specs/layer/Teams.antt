-- The tasks of a run between two rounds, or between two picks.
use Rattle.std.specs.Prelude.{ℕ, ◌≡◌, ◌<◌, true, List, [], ◌∷◌, map, length, slice_index_or, Some, None, is_some}
use mathlib.Core.List.{IsPrefix}
use Rattle.upc_values.specs.declared.action.Action.{Action}
use Rattle.upc_values.specs.declared.journal.Entry.{Entry}
use Rattle.upc_values.specs.Lists.{Numbered}
use Rattle.upc_values.specs.Records.{last_item, is_stall}
use Rattle.upc_values.specs.Openings.{Opening}
use Rattle.upc_values.specs.History.{reply}
use Rattle.stack_code.specs.layer.Codes.{Codes}
use Rattle.stack_machine.specs.declared.wish.Wish.TheVariants.{Act}
use Rattle.turn_cell.specs.declared.seat.Seat.{Seat}
use Rattle.turn_cell.specs.layer.Seats.{TableId, cell_of, number_of, seen_of}
use Rattle.upc_task.specs.layer.Kept.{Worker}
use Rattle.upc_task.specs.layer.Sources.{Outcomes}
use Rattle.upc_task.specs.layer.Seated.{IsTask, IsLawful, IsSeatOf}
use Rattle.upc_rounds_teams.specs.declared.place.Place.{Place}
use Rattle.upc_rounds_teams.specs.layer.Runs.{HasOwnEnd, IsIdle, Wanting, IsOver}
use Rattle.upc_rounds_teams.specs.layer.Played.{GoesByRounds, GoneByRounds, IsEnded}

-- The worker of a place.
abbrev pub worker_of : Place → Worker
worker_of k = k.task.worker

-- The seat of a place.
abbrev pub seat_at : Place → Seat (Opening × List Entry) Entry Opening
seat_at k = k.task.seat

-- What the seat of a place has seen.
abbrev pub seen_at : Place → List Entry
seen_at k = seen_of k.task.seat

-- The workers of places.
abbrev pub workers_of : List Place → List Worker
workers_of ks = map worker_of ks

-- What the first of some places has seen: where they have all met, what each has seen.
abbrev pub seen_among : List Place → List Entry
seen_among [] = []
seen_among (k ∷ ks) = seen_at k

-- The place's seat has seen more, or as much, and nothing else changed.
pub record Met (k m : Place) : Type 0 where
  pub worker : m.task.worker ≡ k.task.worker
  pub failed : m.failed ≡ k.failed
  pub seat : IsSeatOf k.task.seat m.task.seat
  pub seen : IsPrefix (seen_at k) (seen_at m)

-- The places are of one cell.
abbrev pub AreOf : TableId → List Place → Type 0
AreOf z ks = Numbered (λ i k. cell_of k.task.seat ≡ z) ks

-- All have met, and seen one list.
pub record HaveMet (ks ms : List Place) : Type 0 where
  pub many : length ms ≡ length ks
  pub all : List Entry
  pub each : (i : ℕ) (d : Place) → i < length ks → Met (slice_index_or ks i d) (slice_index_or ms i d)
  pub seen : (i : ℕ) (d : Place) → i < length ks → seen_at (slice_index_or ms i d) ≡ all
  pub lawful : (o : Opening) → Numbered (λ i k. IsLawful o (seen_at k)) ks → IsLawful o all

-- The task of thread i, which has seen this list and was not given its end.
pub record IsMember (z : TableId) (o : Opening) (c : Codes) (f : Outcomes) (seen : List Entry) (i : ℕ) (k : Place)
    : Type 0 where
  pub kept : IsTask z o c f k.task
  pub thread : k.task.worker.thread ≡ i
  pub seen_is : seen_at k ≡ seen
  pub own : HasOwnEnd k.task.worker
  pub idle : IsIdle k.task.worker

-- The tasks of a run that goes on, one for each thread, which have all seen one list.
pub record IsCrew (z : TableId) (o : Opening) (c : Codes) (f : Outcomes) (ks : List Place) : Type 0 where
  pub many : length ks ≡ o.threads
  pub members : Numbered (IsMember z o c f (seen_among ks)) ks

-- A run of the code goes on, whatever its outcomes are.
abbrev pub GoesOn : TableId → Opening → Codes → List Place → Type 0
GoesOn z o c ks = (f : Outcomes) × IsCrew z o c f ks

-- Whatever its outcomes, a run that went on with the ones goes on with the others.
abbrev pub StaysCrew : TableId → Opening → Codes → List Place → List Place → Type 0
StaysCrew z o c ks ms = (f : Outcomes) → IsCrew z o c f ks → IsCrew z o c f ms

-- The tasks of a run by rounds, before a round.
pub record IsTeam (z : TableId) (o : Opening) (c : Codes) (f : Outcomes) (ks : List Place) : Type 0 where
  pub crew : IsCrew z o c f ks
  pub goes : GoesByRounds o f (seen_among ks) (workers_of ks)

-- The tasks of a run by rounds, after a round.
pub record HasGone (z : TableId) (o : Opening) (c : Codes) (f : Outcomes) (ks : List Place) : Type 0 where
  pub crew : IsCrew z o c f ks
  pub gone : GoneByRounds o f (seen_among ks) (workers_of ks)

-- The seat of thread i, which has seen this list.
pub record IsSeated (z : TableId) (seen : List Entry) (i : ℕ) (k : Place) : Type 0 where
  pub cell : cell_of k.task.seat ≡ z
  pub number : number_of k.task.seat ≡ i
  pub seen_is : seen_at k ≡ seen

-- The places have the seats that they had.
pub record SameSeats (ks ms : List Place) : Type 0 where
  pub many : length ms ≡ length ks
  pub each : (i : ℕ) (d : Place) → i < length ks → seat_at (slice_index_or ms i d) ≡ seat_at (slice_index_or ks i d)

-- Each place's seat has seen as much or more, and nothing else changed.
pub record AreMet (ks ms : List Place) : Type 0 where
  pub many : length ms ≡ length ks
  pub each : (i : ℕ) (d : Place) → i < length ks → Met (slice_index_or ks i d) (slice_index_or ms i d)

-- A task without an end wants what is not legal after what its seat has seen.
abbrev pub InVain : Opening → Place → Type 0
InVain o k = k.task.worker.«end» ≡ None → Wanting o (seen_at k) k.task.worker

-- The task goes on: it has no end, and what it wants is legal after what its seat has seen.
pub record IsAllowed (o : Opening) (k : Place) : Type 0 where
  pub opened : k.task.worker.«end» ≡ None
  pub action : Action
  pub wish_is : k.task.worker.wish ≡ Some (Act action)
  pub legal : is_some (reply o (seen_at k) k.task.worker.thread action) ≡ true

-- A task without an end stands at a Stall.
abbrev pub Stands : Place → Type 0
Stands k = k.task.worker.«end» ≡ None → is_stall (last_item k.task.worker.items.items) ≡ true

-- A run that is over: each task has its end, and all seats have seen one list.
pub record IsDone (z : TableId) (o : Opening) (c : Codes) (f : Outcomes) (ks : List Place) : Type 0 where
  pub seats : Numbered (IsSeated z (seen_among ks)) ks
  pub over : IsOver o c f (seen_among ks) (workers_of ks)

-- A run that went by rounds, and is over: after its last round ends were given.
pub record HasEnded (o : Opening) (f : Outcomes) (ks : List Place) : Type 0 where
  pub last : List Worker
  pub gone : GoneByRounds o f (seen_among ks) last
  pub many : length (workers_of ks) ≡ length last
  pub ends : (i : ℕ) (d : Worker) → i < length last
      → IsEnded (slice_index_or last i d) (slice_index_or (workers_of ks) i d)
