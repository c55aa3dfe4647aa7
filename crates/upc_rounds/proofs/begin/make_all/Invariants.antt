use Rattle.std.proofs.Common.{◌≡◌, ◌++◌, [], length, None}
use Rattle.std.specs.Vec.Iter.{into_iter_items}
use Rattle.upc_values.specs.Lists.{Numbered}
use Rattle.upc_values.specs.Openings.{Opening, IsOpening}
use Rattle.turn_cell.specs.layer.Seats.{TableId, AreNew}
use Rattle.upc_task.specs.layer.Sources.{Outcomes, HasOutcomes}
use Rattle.upc_rounds_teams.specs.declared.place.Place.{Place}
use Rattle.upc_rounds_teams.specs.layer.Runs.{standing_of}
use Rattle.upc_rounds_teams.specs.layer.Teams.{IsMember}
use Rattle.upc_rounds.proofs.begin.make_all.Given as goal

abbrev pub invariant-loop-seat : goal.invariant-loop-seat
invariant-loop-seat l = record {
  all : l.yielded ++ into_iter_items l.seat-iterator ≡ l.fn.seats.items;
  count : length l.places.items ≡ length l.yielded;
  number : l.number ≡ length l.yielded;
  limits : Numbered (λ i (k : Place). k.task.worker.limits ≡ l.limits) l.places.items;
  fresh : Numbered (λ i (k : Place). standing_of k.task.worker ≡ record { items = []; «end» = None }) l.places.items;
  members : (z : TableId) (o : Opening) (f : Outcomes) → AreNew z o 0 l.fn.seats.items → IsOpening o → HasOutcomes o l.code l.limits f
      → Numbered (IsMember z o l.code f []) l.places.items;
}
