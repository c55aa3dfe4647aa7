use Rattle.std.proofs.Common.{take}
use Rattle.turn_cell.specs.layer.Seats.{id_of, started}
use Rattle.upc_rounds_teams.specs.layer.Course.{AreObeyed}
use Rattle.upc_rounds_teams.specs.layer.Runs.{AreSame, moment_of}
use Rattle.upc_rounds_teams.specs.layer.Teams.{StaysCrew, workers_of, seen_among}
use Rattle.upc_rounds_picks.proofs.picks.pick_all.Given as goal

abbrev pub invariant-loop-pick : goal.invariant-loop-pick
invariant-loop-pick g l = record {
  running : StaysCrew (id_of l.cell) (started l.cell).0 l.code l.initial.places l.places;
  same : AreSame (workers_of l.initial.places) (workers_of l.places);
  moves : AreObeyed (take l.pick-index l.picks)
      (moment_of ((started l.cell).0, seen_among l.initial.places) (workers_of l.initial.places))
      (moment_of ((started l.cell).0, seen_among l.places) (workers_of l.places));
}
