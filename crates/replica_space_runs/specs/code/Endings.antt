-- A run by rounds that is over.
use Rattle.std.specs.Prelude.{◌≡◌, List}
use Rattle.upc_values.specs.declared.journal.Strand.{Strand}
use Rattle.upc_values.specs.Openings.{Opening}
use Rattle.stack_code.specs.layer.Codes.{Codes}
use Rattle.replica_space.specs.declared.event.Event.{Event}
use Rattle.upc_task.specs.declared.limits.Limits.{Limits}
use Rattle.upc_task.specs.layer.Sources.{Outcomes}
use Rattle.replica_space_tasks.specs.declared.worker.ReplicaWorker.{ReplicaWorker}
use Rattle.replica_space_crews.specs.layer.Crews.{IsOver, strands_of}
use Rattle.replica_space_rounds.specs.layer.Rounds.{HasGone}

-- A run of p has gone by rounds and is over, and these are the strands of its workers.
pub record HasCome (p : Codes) (l : Limits) (f : Outcomes) (w : Opening × List Event) (strands : List Strand)
    : Type 0 where
  pub last : List ReplicaWorker
  pub over : IsOver p l f w last
  pub gone : HasGone w.0 f w.1 last
  pub same : strands ≡ strands_of f last
