use Rattle.std.proofs.Common.{◌≡◌}
use Rattle.block_layout.specs.Lists.{under}
use Rattle.collectives.proofs.cells.kind_under.Given as goal

abbrev pub invariant-loop-cell : goal.invariant-loop-cell
invariant-loop-cell l = record {
  next : (goal.iterator-loop-cell).can_next l.cell-iterator;
  finite : (goal.iterator-loop-cell).is_finite l.cell-iterator;
  rest : under l.place l.cell-iterator ≡ under l.place l.cells;
}
