use Rattle.std.proofs.Common.{◌≡◌, ◌≤◌, take}
use Rattle.replica_space_crews.specs.layer.Crews.{open_among}
use Rattle.replica_space_runs.proofs.picks.count_open.Given as goal

abbrev pub invariant-loop-at : goal.invariant-loop-at
invariant-loop-at l = record {
  counted : l.live ≡ open_among (take l.at l.workers);
  few : l.live ≤ l.at;
}
