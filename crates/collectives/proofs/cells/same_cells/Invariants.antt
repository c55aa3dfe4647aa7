use Rattle.std.proofs.Common.{◌≡◌, drop}
use Rattle.block_layout.specs.Cells.{same_cells}
use Rattle.collectives.proofs.cells.same_cells.Given as goal

abbrev pub invariant-loop-at : goal.invariant-loop-at
invariant-loop-at l = same_cells (drop l.at l.a) (drop l.at l.b) ≡ same_cells l.a l.b
