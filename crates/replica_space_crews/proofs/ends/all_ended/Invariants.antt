use Rattle.std.proofs.Common.{ℕ, ◌≡◌, ◌<◌, is_some, true}
use Rattle.std.specs.Prelude.{slice_index_or}
use Rattle.replica_space_tasks.specs.declared.worker.ReplicaWorker.{ReplicaWorker}
use Rattle.replica_space_crews.proofs.ends.all_ended.Given as goal

abbrev pub invariant-loop-at : goal.invariant-loop-at
invariant-loop-at l =
    (i : ℕ) (d : ReplicaWorker) → i < l.at → is_some (slice_index_or l.workers i d).recorder.«end» ≡ true
