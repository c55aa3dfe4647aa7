use Rattle.std.proofs.Common.{◌≡◌, ℕ, ◌<◌, ◌≤◌, length}
use Rattle.std.specs.Prelude.{slice_index_or}
use Rattle.upc_values.specs.Lists.{Numbered}
use Rattle.stack_code.specs.layer.Codes.{Codes}
use Rattle.turn_cell.specs.layer.Seats.{id_of, started}
use Rattle.upc_task.specs.layer.Sources.{Outcomes}
use Rattle.upc_task.specs.layer.Seated.{IsTask}
use Rattle.upc_rounds_teams.specs.declared.place.Place.{Place}
use Rattle.upc_rounds_teams.specs.layer.Teams.{IsCrew, Met, InVain}
use Rattle.upc_rounds_teams.proofs.ends.first_to_go.Given as goal

abbrev pub invariant-loop-at : goal.invariant-loop-at
invariant-loop-at g l = record {
  many : length l.places ≡ length l.initial.places;
  met : (i : ℕ) (d : Place) → i < length l.initial.places → Met (slice_index_or l.initial.places i d) (slice_index_or l.places i d);
  kept : (c : Codes) (f : Outcomes) → IsCrew (id_of l.cell) (started l.cell).0 c f l.initial.places
      → Numbered (λ i (k : Place). IsTask (id_of l.cell) (started l.cell).0 c f k.task) l.places;
  vain : (i : ℕ) (d : Place) → i < l.at → InVain (started l.cell).0 (slice_index_or l.places i d);
  left : (i : ℕ) (d : Place) → l.at ≤ i → slice_index_or l.places i d ≡ slice_index_or l.initial.places i d;
}
