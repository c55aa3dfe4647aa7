use Rattle.std.proofs.Common.{ℕ, ◌<◌}
use Rattle.std.specs.Prelude.{slice_index_or}
use Rattle.replica_space_tasks.specs.declared.worker.ReplicaWorker.{ReplicaWorker}
use Rattle.upc_rounds_base.specs.layer.Ending.{IsQuiet}
use Rattle.replica_space_crews.proofs.ends.is_stopped.Given as goal

abbrev pub invariant-loop-at : goal.invariant-loop-at
invariant-loop-at l = (i : ℕ) (d : ReplicaWorker) → i < l.at → IsQuiet (slice_index_or l.workers i d).recorder
