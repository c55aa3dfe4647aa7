-- The workers of a run by rounds, and what a round makes of them.
use Rattle.std.specs.Prelude.{ℕ, ◌≡◌, ◌⊎◌, true, List, [], map, is_some}
use Rattle.upc_values.specs.Lists.{Numbered}
use Rattle.upc_values.specs.Openings.{Opening}
use Rattle.stack_code.specs.layer.Codes.{Codes}
use Rattle.turn_cell.specs.declared.seat.Seat.{Seat}
use Rattle.replica_space.specs.declared.event.Event.{Event}
use Rattle.upc_task.specs.layer.Sources.{Outcomes}
use Rattle.upc_task.specs.declared.limits.Limits.{Limits}
use Rattle.upc_task.specs.layer.Recorded.{end_or}
use Rattle.upc_rounds_teams.specs.Rounds.{BeatsLast, ends_with_beat}
use Rattle.replica_space_tasks.specs.declared.worker.ReplicaWorker.{ReplicaWorker}
use Rattle.replica_space_crews.specs.layer.Crews.{IsCrew}
use Rattle.replica_space_parts.specs.declared.part.Part.{Part}
use Rattle.replica_space_parts.specs.declared.seated.Seated.{Seated}
use Rattle.replica_space_parts.specs.layer.Seated.{KeepsStalls, want_of}
use Rattle.replica_space_rounds.specs.declared.crew.Crew.{Crew}
use Rattle.replica_space_rounds.specs.ReplicaRounds.{events_in, actions_by, StandsAlone, RestsAloneAfterEach}

-- The worker of a place.
abbrev pub worker_of : Seated → ReplicaWorker
worker_of k = k.worker

-- The seat of a place.
abbrev pub seat_of : Seated → Seat Part Event Part
seat_of k = k.seat

-- The workers of places.
abbrev pub workers_of : List Seated → List ReplicaWorker
workers_of ks = map worker_of ks

-- What a thread did in a round, which added the part to the events before.
pub record Played (o : Opening) (f : Outcomes) (i : ℕ) (before part : List Event) (k m : ReplicaWorker) : Type 0 where
  pub beats : BeatsLast (actions_by i part)
  pub keeps : KeepsStalls f k.recorder m.recorder
  pub rests :
      (ends_with_beat (actions_by i part) ≡ true)
      ⊎ ((is_some m.recorder.«end» ≡ true)
      ⊎ StandsAlone o i m.recorder.items.items (want_of f m.recorder) before part)
  pub over : is_some k.recorder.«end» ≡ true → (m ≡ k) × (actions_by i part ≡ [])

-- Events that have gone by rounds: these are the rounds, and after each the workers rest. A thread without an end
-- counts as one that is given its end later.
pub record HasGone (o : Opening) (f : Outcomes) (events : List Event) (ks : List ReplicaWorker) : Type 0 where
  pub parts : List (List Event)
  pub whole : events_in parts ≡ events
  pub rests :
      Numbered
      (λ i k. RestsAloneAfterEach o i k.recorder.items.items (want_of f k.recorder) (end_or k.recorder.«end») [] parts)
      ks

-- A run of p that went by rounds with the one crew has gone by rounds with the other, whatever its limits and outcomes.
abbrev pub StaysInRounds : Codes → Crew → Crew → Type 0
StaysInRounds p k m =
    (l : Limits) (f : Outcomes) → IsCrew p l f k.run k.workers.items → HasGone k.run.0 f k.run.1 k.workers.items
    → HasGone m.run.0 f m.run.1 m.workers.items
