use Rattle.std.proofs.Common.{◌≡◌, ◌<◌}
use Rattle.typed_tree_opening.specs.code.Apart.{cells_code, cells_from}
use Rattle.typed_tree_opening.proofs.shape_codes.with_cells.Given as goal

abbrev pub invariant-loop-cell : goal.invariant-loop-cell
invariant-loop-cell l = record {
  next : (goal.iterator-loop-cell).can_next l.cell-iterator;
  finite : (goal.iterator-loop-cell).is_finite l.cell-iterator;
  rest : cells_code l.left l.code l.cell-iterator ≡ cells_code 16 l.fn.code (cells_from l.place l.shape.cells);
  small : l.code < 4294967296;
}
