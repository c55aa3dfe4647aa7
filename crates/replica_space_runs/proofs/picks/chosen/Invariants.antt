use Rattle.std.proofs.Common.{◌≡◌, ◌+◌, ◌%◌, take}
use Rattle.replica_space_crews.specs.layer.Crews.{open_among}
use Rattle.replica_space_runs.proofs.picks.chosen.Given as goal

abbrev pub invariant-loop-at : goal.invariant-loop-at
invariant-loop-at l = open_among (take l.at l.workers) + l.left ≡ l.pick % open_among l.workers
