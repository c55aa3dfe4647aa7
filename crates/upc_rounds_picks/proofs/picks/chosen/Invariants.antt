use Rattle.std.proofs.Common.{◌≡◌, ◌+◌, ◌%◌, take}
use Rattle.upc_rounds_teams.specs.layer.Runs.{open_among}
use Rattle.upc_rounds_teams.specs.layer.Teams.{workers_of}
use Rattle.upc_rounds_picks.proofs.picks.chosen.Given as goal

abbrev pub invariant-loop-at : goal.invariant-loop-at
invariant-loop-at l = open_among (take l.at (workers_of l.places)) + l.left ≡ l.pick % open_among (workers_of l.places)
