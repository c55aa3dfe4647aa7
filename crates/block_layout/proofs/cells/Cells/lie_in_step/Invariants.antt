use Rattle.std.proofs.Common.{◌↔◌}
use Rattle.block_layout.specs.Shapes.{CellsWithin}
use Rattle.block_layout.proofs.cells.Cells.lie_in_step.Given as goal

abbrev pub invariant-loop-cell : goal.invariant-loop-cell
invariant-loop-cell l = CellsWithin l.cell-iterator l.end l.size ↔ CellsWithin l.self 0 l.size
