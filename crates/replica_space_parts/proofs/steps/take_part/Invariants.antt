use Rattle.turn_cell.specs.layer.Seats.{id_of, started}
use Rattle.replica_space_parts.specs.layer.Parts.{begun_of}
use Rattle.replica_space_parts.proofs.Stepping.{Far}
use Rattle.replica_space_parts.proofs.steps.take_part.Given as goal

abbrev pub invariant-loop : goal.invariant-loop
invariant-loop g l = Far (id_of l.cell) (begun_of (started l.cell)) l.code l.initial.seated l.seated
