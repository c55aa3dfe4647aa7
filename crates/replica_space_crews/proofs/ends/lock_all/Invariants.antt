use Rattle.std.proofs.Common.{◌≡◌, ℕ, ◌<◌, ◌≤◌, length}
use Rattle.std.specs.Prelude.{slice_index_or}
use Rattle.replica_space_tasks.specs.declared.worker.ReplicaWorker.{ReplicaWorker}
use Rattle.replica_space_crews.specs.layer.Crews.{IsLocked}
use Rattle.replica_space_crews.proofs.ends.lock_all.Given as goal

abbrev pub invariant-loop-at : goal.invariant-loop-at
invariant-loop-at l = record {
  many : length l.workers ≡ length l.initial.workers;
  done : (i : ℕ) (d : ReplicaWorker) → i < l.at → IsLocked (slice_index_or l.initial.workers i d) (slice_index_or l.workers i d);
  left : (i : ℕ) (d : ReplicaWorker) → l.at ≤ i → slice_index_or l.workers i d ≡ slice_index_or l.initial.workers i d;
}
