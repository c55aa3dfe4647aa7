use Rattle.std.proofs.Common.{◌≡◌, [], length}
use Rattle.upc_values.specs.Lists.{Numbered}
use Rattle.upc_values.specs.Openings.{Opening}
use Rattle.upc_task.specs.layer.Sources.{Outcomes, HasOutcomes}
use Rattle.replica_space_crews.specs.layer.Crews.{IsMember}
use Rattle.replica_space_runs.proofs.begin.make_all.Given as goal

abbrev pub invariant-loop-thread : goal.invariant-loop-thread
invariant-loop-thread l = record {
  many : length l.workers.items ≡ l.thread;
  members : (o : Opening) (f : Outcomes) → HasOutcomes o l.code l.limits f
      → Numbered (IsMember o l.code l.limits f []) l.workers.items;
}
