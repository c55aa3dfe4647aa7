use Rattle.std.proofs.Common.{◌≡◌, ℕ, suc, ◌<◌, ◌≤◌, length, get_or, vec_capacity}
use Rattle.turn_cell.specs.layer.Seats.{id_of, started}
use Rattle.post_box.specs.declared.post.Owner.{Owner}
use Rattle.post_box.specs.layer.Boxes.{IsIdle, WaitsFor}
use Rattle.upc_rounds_teams.specs.declared.place.Place.{Place}
use Rattle.upc_rounds_teams.specs.layer.Places.{Did}
use Rattle.upc_rounds.specs.declared.posts.Part.{Part}
use Rattle.upc_rounds.specs.code.Posts.{TaskBox}
use Rattle.upc_rounds.proofs.hands.gather.Given as goal

abbrev pub invariant-loop-at : goal.invariant-loop-at
invariant-loop-at g l = record {
  many : length l.places.items ≡ suc l.at;
  owned : length l.owners ≡ length l.boxes;
  room : suc (length l.boxes) ≤ vec_capacity l.places;
  first : (d : Place) → get_or l.places.items 0 d ≡ get_or l.fn.places.items 0 d;
  idle : (i : ℕ) (b : TaskBox) (o : Owner Part Place) → i < l.at → IsIdle (get_or l.boxes i b) (get_or l.owners i o);
  out : (i : ℕ) (b : TaskBox) (o : Owner Part Place) (x : Place) → l.at ≤ i → i < length l.boxes
      → WaitsFor (get_or l.boxes i b) (get_or l.owners i o) (get_or l.fn.was.value.items (suc i) x);
  did : (i : ℕ) (d : Place) → i < l.at → Did (id_of l.cell) (started l.cell).0 l.code (get_or l.fn.was.value.items (suc i) d) (get_or l.places.items (suc i) d);
}
