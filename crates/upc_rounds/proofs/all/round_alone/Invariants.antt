use Rattle.std.proofs.Common.{◌≡◌, ℕ, ◌<◌, ◌≤◌, length, get_or}
use Rattle.turn_cell.specs.layer.Seats.{id_of, started}
use Rattle.upc_rounds_teams.specs.declared.place.Place.{Place}
use Rattle.upc_rounds_teams.specs.layer.Places.{Did}
use Rattle.upc_rounds.proofs.all.round_alone.Given as goal

abbrev pub invariant-loop-at : goal.invariant-loop-at
invariant-loop-at g l = record {
  many : length l.places ≡ length l.fn.places;
  did : (i : ℕ) (d : Place) → i < l.at → Did (id_of l.cell) (started l.cell).0 l.code (get_or l.fn.places i d) (get_or l.places i d);
  rest : (i : ℕ) (d : Place) → l.at ≤ i → i < length l.fn.places → get_or l.places i d ≡ get_or l.fn.places i d;
}
