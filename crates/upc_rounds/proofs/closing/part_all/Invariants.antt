use Rattle.std.proofs.Common.{◌≡◌, ◌≤◌, ◌++◌, length, map, vec_capacity}
use Rattle.std.specs.Vec.Iter.{into_iter_items}
use Rattle.upc_values.specs.Lists.{Numbered}
use Rattle.upc_values.specs.Openings.{Opening}
use Rattle.stack_code.specs.layer.Codes.{Codes}
use Rattle.upc_task.specs.layer.Sources.{Outcomes}
use Rattle.upc_task.specs.layer.Kept.{IsKept, strand_of}
use Rattle.upc_rounds_teams.specs.declared.place.Place.{Place}
use Rattle.upc_rounds_teams.specs.layer.Teams.{workers_of, seat_at, seen_at}
use Rattle.upc_rounds.proofs.closing.part_all.Given as goal

abbrev pub invariant-loop-place : goal.invariant-loop-place
invariant-loop-place l = record {
  all : l.yielded ++ into_iter_items l.place-iterator ≡ l.fn.places.items;
  seats : l.seats.items ≡ map seat_at l.yielded;
  many : length l.strands.items ≡ length l.yielded;
  room : (length l.fn.places.items ≤ vec_capacity l.seats) × (length l.fn.places.items ≤ vec_capacity l.strands);
  made : (o : Opening) (c : Codes) (f : Outcomes) → Numbered (λ i (k : Place). IsKept o c f (seen_at k) k.task.worker) l.fn.places.items
      → l.strands.items ≡ map (strand_of f) (workers_of l.yielded);
}
