use Rattle.std.proofs.Common.{ℕ, ◌<◌, length}
use Rattle.turn_cell.specs.layer.Seats.{id_of, started}
use Rattle.upc_rounds_teams.specs.layer.Course.{GoesRounds}
use Rattle.upc_rounds_teams.specs.layer.Runs.{AreSame, NoneStops, moment_of}
use Rattle.upc_rounds_teams.specs.layer.Teams.{StaysCrew, workers_of, seen_among}
use Rattle.upc_rounds_picks.proofs.picks.rounds.Given as goal

abbrev pub invariant-loop : goal.invariant-loop
invariant-loop g l = record {
  some : 0 < length l.places;
  running : StaysCrew (id_of l.cell) (started l.cell).0 l.code l.initial.places l.places;
  same : AreSame (workers_of l.initial.places) (workers_of l.places);
  quiet : NoneStops (workers_of l.places);
  went : (many : ℕ) × GoesRounds many
      (moment_of ((started l.cell).0, seen_among l.initial.places) (workers_of l.initial.places))
      (moment_of ((started l.cell).0, seen_among l.places) (workers_of l.places));
}
