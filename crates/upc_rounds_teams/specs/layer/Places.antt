-- What a round of all does to each task.
use Rattle.std.specs.Prelude.{◌≡◌, ◌⊎◌, true, false, None, is_some, length}
use mathlib.Core.List.{IsPrefix}
use Rattle.upc_values.specs.Openings.{Opening}
use Rattle.upc_values.specs.Records.{last_item, is_beat_item}
use Rattle.stack_code.specs.layer.Codes.{Codes}
use Rattle.turn_cell.specs.layer.Seats.{TableId, seen_of}
use Rattle.upc_task.specs.declared.seated.Task.{Task}
use Rattle.upc_task.specs.layer.Sources.{Outcomes}
use Rattle.upc_task.specs.declared.worker.Pause.{Pause}
use Rattle.upc_task.specs.declared.worker.Pause.TheVariants as pauses
use Rattle.upc_task.specs.layer.Kept.{IsSame, Waits}
use Rattle.upc_task.specs.layer.Seated.{IsTask}
use Rattle.upc_rounds_teams.specs.declared.place.Place.{Place}
use Rattle.upc_rounds_teams.specs.layer.Course.{TakesPart}
use Rattle.upc_rounds_teams.specs.layer.Runs.{HasOwnEnd, IsIdle, Rested, standing_of}
use Rattle.upc_rounds_teams.specs.layer.Played.{Acted}

-- A task that has gone on is still the task of its thread.
pub record Moved (z : TableId) (o : Opening) (c : Codes) (k m : Task) : Type 0 where
  pub same : IsSame k.worker m.worker
  pub own : HasOwnEnd k.worker → HasOwnEnd m.worker
  pub idle : IsIdle k.worker → IsIdle m.worker
  pub fine : (f : Outcomes) → IsTask z o c f k → IsTask z o c f m
  pub sees : IsPrefix (seen_of k.seat) (seen_of m.seat)

-- A task's part in a round.
pub record Took (z : TableId) (o : Opening) (c : Codes) (k m : Task) : Type 0 where
  pub moved : Moved z o c k m
  pub rested : Rested m.worker
  pub takes : TakesPart (standing_of k.worker) (standing_of m.worker)
  pub full : length k.worker.items.items ≡ k.worker.limits.actions → is_some m.worker.«end» ≡ true
  pub acted : (f : Outcomes) → IsTask z o c f k
      → Acted o f k.worker.thread (seen_of k.seat) (seen_of m.seat) k.worker m.worker

-- How a task stands after a part in a round that ended with this pause.
abbrev pub RestsWith : Pause → Opening → Task → Type 0
RestsWith pauses.Going o m = ⊥
RestsWith pauses.Beat o m = (m.worker.«end» ≡ None) × (is_beat_item (last_item m.worker.items.items) ≡ true)
RestsWith pauses.Stalled o m = (m.worker.«end» ≡ None) × Waits pauses.Stalled o (seen_of m.seat) m.worker
RestsWith pauses.Finished o m = is_some m.worker.«end» ≡ true

-- A thread's part in a round: it took its part, or had its end already.
pub record Did (z : TableId) (o : Opening) (c : Codes) (k m : Place) : Type 0 where
  pub did : m.failed ≡ false
      → ((k.task.worker.«end» ≡ None) × Took z o c k.task m.task)
      ⊎ ((is_some k.task.worker.«end» ≡ true) × (m ≡ k))
