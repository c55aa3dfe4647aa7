use Rattle.std.proofs.Common.{◌≡◌, suc, ◌<◌, length}
use Rattle.post_box.specs.layer.Rows.{AreIdle}
use Rattle.turn_cell.specs.layer.Seats.{id_of, started}
use Rattle.upc_task.specs.layer.Sources.{Outcomes}
use Rattle.upc_rounds_teams.specs.layer.Runs.{AreSame}
use Rattle.upc_rounds_teams.specs.layer.Teams.{IsTeam, workers_of}
use Rattle.upc_rounds.proofs.threads.rounds.Given as goal

abbrev pub invariant-loop : goal.invariant-loop
invariant-loop g l = record {
  many : length l.places.items ≡ suc (length l.boxes);
  owned : length l.owners ≡ length l.boxes;
  idle : AreIdle l.boxes l.owners;
  some : 0 < length l.places.items;
  team : (f : Outcomes) → IsTeam (id_of l.cell) (started l.cell).0 l.code f l.initial.places.items → IsTeam (id_of l.cell) (started l.cell).0 l.code f l.places.items;
  same : AreSame (workers_of l.initial.places.items) (workers_of l.places.items);
}
