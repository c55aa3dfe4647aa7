use Rattle.replica_space_crews.specs.layer.Crews.{StaysCrew}
use Rattle.replica_space_runs.proofs.picks.rounds.Given as goal

abbrev pub invariant-loop : goal.invariant-loop
invariant-loop g l = StaysCrew l.code l.initial.run l.initial.workers l.run l.workers
