use Rattle.std.proofs.Common.{◌≡◌}
use Rattle.block_layout.specs.Cells.{same_cells}
use Rattle.block_layout.proofs.cells.Cells.same_in_step.Given as goal

abbrev pub invariant-loop-cell : goal.invariant-loop-cell
invariant-loop-cell l = same_cells l.cell-iterator l.others ≡ same_cells l.self l.other
