use Rattle.turn_cell.specs.layer.Seats.{IsFree, IsSame}
use Rattle.tests_records.specs.declared.turns.Note.{Note}
use Rattle.tests_records.proofs.turns.add_all.Given as goal

abbrev pub invariant-loop-value : goal.invariant-loop-value
invariant-loop-value g l = IsFree (λ (m : Note). m.by) l.seat × IsSame l.fn.seat l.seat
