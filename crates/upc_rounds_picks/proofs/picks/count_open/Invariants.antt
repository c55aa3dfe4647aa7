use Rattle.std.proofs.Common.{◌≡◌, ◌≤◌, take}
use Rattle.upc_rounds_teams.specs.layer.Runs.{open_among}
use Rattle.upc_rounds_teams.specs.layer.Teams.{workers_of}
use Rattle.upc_rounds_picks.proofs.picks.count_open.Given as goal

abbrev pub invariant-loop-at : goal.invariant-loop-at
invariant-loop-at l = record {
  counted : l.live ≡ open_among (take l.at (workers_of l.places));
  few : l.live ≤ l.at;
}
