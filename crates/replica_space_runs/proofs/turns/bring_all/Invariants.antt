use Rattle.std.proofs.Common.{ℕ, ◌<◌}
use Rattle.std.specs.Prelude.{slice_index_or}
use Rattle.upc_rounds_base.specs.layer.Ending.{Rested}
use Rattle.replica_space_tasks.specs.declared.worker.ReplicaWorker.{ReplicaWorker}
use Rattle.replica_space_crews.specs.layer.Crews.{StaysCrew}
use Rattle.replica_space_runs.proofs.turns.bring_all.Given as goal

abbrev pub invariant-loop-at : goal.invariant-loop-at
invariant-loop-at g l = record {
  running : StaysCrew l.code l.initial.run l.initial.workers l.run l.workers;
  rested : (i : ℕ) (d : ReplicaWorker) → i < l.at → Rested (slice_index_or l.workers i d).recorder;
}
