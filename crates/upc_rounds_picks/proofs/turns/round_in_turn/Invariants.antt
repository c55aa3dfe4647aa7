use Rattle.std.proofs.Common.{◌≡◌, ℕ, ◌<◌, ◌≤◌}
use Rattle.std.specs.Prelude.{slice_index_or}
use Rattle.turn_cell.specs.layer.Seats.{id_of, started}
use Rattle.upc_task.specs.layer.Kept.{Worker}
use Rattle.upc_rounds_teams.specs.layer.Course.{Grows, InRound}
use Rattle.upc_rounds_teams.specs.layer.Runs.{AreSame, Rested, GoesAt}
use Rattle.upc_rounds_teams.specs.layer.Teams.{StaysCrew, workers_of, seen_among}
use Rattle.upc_rounds_picks.proofs.turns.round_in_turn.Given as goal

abbrev pub invariant-loop-at : goal.invariant-loop-at
invariant-loop-at g l = record {
  running : StaysCrew (id_of l.cell) (started l.cell).0 l.code l.initial.places l.places;
  same : AreSame (workers_of l.initial.places) (workers_of l.places);
  rested : (i : ℕ) (d : Worker) → i < l.at → Rested (slice_index_or (workers_of l.places) i d);
  done : (i : ℕ) → i < l.at → GoesAt InRound i (workers_of l.initial.places) (workers_of l.places);
  left : (i : ℕ) (d : Worker) → l.at ≤ i → slice_index_or (workers_of l.places) i d ≡ slice_index_or (workers_of l.initial.places) i d;
  grows : Grows (seen_among l.initial.places) (seen_among l.places);
}
