use Rattle.std.proofs.Common.{◌≡◌}
use Rattle.private_store.specs.code.Laid.{is_row_from}
use Rattle.private_store.proofs.row_shapes.is_row.Given as goal

abbrev pub invariant-loop-cell : goal.invariant-loop-cell
invariant-loop-cell l = record {
  next : (goal.iterator-loop-cell).can_next l.cell-iterator;
  finite : (goal.iterator-loop-cell).is_finite l.cell-iterator;
  rest : is_row_from l.kind l.end l.shape.size l.cell-iterator ≡ is_row_from l.kind 0 l.shape.size l.shape.cells;
}
