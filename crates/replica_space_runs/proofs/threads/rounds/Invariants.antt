use Rattle.std.proofs.Common.{◌<◌, length}
use Rattle.replica_space_crews.specs.layer.Crews.{StaysCrew}
use Rattle.replica_space_rounds.specs.layer.Rounds.{StaysInRounds}
use Rattle.replica_space_runs.proofs.threads.rounds.Given as goal

abbrev pub invariant-loop : goal.invariant-loop
invariant-loop g l = record {
  some : 0 < length l.now.workers.items;
  stays : StaysCrew l.code l.fn.crew.run l.fn.crew.workers.items l.now.run l.now.workers.items;
  gone : StaysInRounds l.code l.fn.crew l.now;
}
