use Rattle.std.proofs.Common.{◌≡◌, None}
use Rattle.replica_space_crews.specs.layer.Crews.{Moved}
use Rattle.replica_space_runs.proofs.turns.go_on.Given as goal

abbrev pub invariant-loop : goal.invariant-loop
invariant-loop g l = record {
  moved : Moved l.code l.initial.run l.initial.worker l.run l.worker;
  opened : l.worker.recorder.«end» ≡ None;
}
