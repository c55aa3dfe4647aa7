use Rattle.std.proofs.Common.{ℕ, ◌≡◌, ◌<◌, None}
use Rattle.std.specs.Prelude.{slice_index_or}
use Rattle.replica_space.specs.Events.{history_in}
use Rattle.replica_space_tasks.specs.declared.worker.ReplicaWorker.{ReplicaWorker}
use Rattle.upc_rounds_base.specs.layer.Ending.{Wanting}
use Rattle.replica_space_crews.proofs.ends.none_goes.Given as goal

abbrev pub invariant-loop-at : goal.invariant-loop-at
invariant-loop-at l =
    (i : ℕ) (d : ReplicaWorker) → i < l.at → (slice_index_or l.workers i d).recorder.«end» ≡ None
    → Wanting l.run.0 (history_in l.run.1) (slice_index_or l.workers i d).recorder
