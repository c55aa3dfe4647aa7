use Rattle.turn_cell.specs.layer.Seats.{id_of, started}
use Rattle.upc_rounds.proofs.Parts.{Far}
use Rattle.upc_rounds.proofs.part.round.Given as goal

abbrev pub invariant-loop : goal.invariant-loop
invariant-loop g l = Far (id_of l.cell) (started l.cell).0 l.code l.initial.task l.task
