use Rattle.std.proofs.Common.{◌*◌, ◌≤◌}
use Rattle.block_layout.specs.Shapes.{CellsWithin}
use Rattle.tests_machine.proofs.shapes.row.Given as goal

abbrev pub invariant-loop-cell : goal.invariant-loop-cell
invariant-loop-cell l = record {
  some : l.cell ≤ l.size;
  few : l.size ≤ 16 * l.cell;
  within : CellsWithin l.cells.items 0 l.size;
}
