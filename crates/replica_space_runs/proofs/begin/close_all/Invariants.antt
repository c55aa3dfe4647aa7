use Rattle.std.proofs.Common.{◌≡◌, ◌++◌, List}
use Rattle.std.specs.Vec.Iter.{into_iter_items}
use Rattle.upc_values.specs.Lists.{Numbered}
use Rattle.upc_values.specs.Openings.{Opening}
use Rattle.stack_code.specs.layer.Codes.{Codes}
use Rattle.replica_space.specs.declared.event.Event.{Event}
use Rattle.upc_task.specs.layer.Sources.{Outcomes}
use Rattle.replica_space_tasks.specs.declared.worker.ReplicaWorker.{ReplicaWorker}
use Rattle.replica_space_tasks.specs.layer.Kept.{IsKept}
use Rattle.replica_space_crews.specs.layer.Crews.{strands_of}
use Rattle.replica_space_runs.proofs.begin.close_all.Given as goal

abbrev pub invariant-loop-worker : goal.invariant-loop-worker
invariant-loop-worker l = record {
  all : l.yielded ++ into_iter_items l.worker-iterator ≡ l.fn.workers.items;
  made : (o : Opening) (c : Codes) (f : Outcomes) (events : List Event)
      → Numbered (λ _ (k : ReplicaWorker). IsKept o c f events k) l.fn.workers.items → l.strands.items ≡ strands_of f l.yielded;
}
