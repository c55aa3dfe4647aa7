use Rattle.replica_space_crews.specs.layer.Crews.{StaysCrew}
use Rattle.replica_space_runs.proofs.picks.pick_all.Given as goal

abbrev pub invariant-loop-pick : goal.invariant-loop-pick
invariant-loop-pick l = StaysCrew l.code l.initial.run l.initial.workers l.run l.workers
