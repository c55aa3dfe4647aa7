use Rattle.std.proofs.Common.{◌≡◌, drop, length}
use Rattle.block_layout.specs.Cells.{same_cells}
use Rattle.block_layout.proofs.cell_lists.same_lists.Given as goal

abbrev pub invariant-loop-i : goal.invariant-loop-i
invariant-loop-i l = record {
  rest : same_cells (drop l.i l.a) (drop l.i l.b) ≡ same_cells l.a l.b;
  lengths : length l.a ≡ length l.b;
}
