use Rattle.std.proofs.Common.{◌≡◌, ◌++◌}
use Rattle.block_layout.specs.Cells.{moved, copies}
use Rattle.block_layout.proofs.cell_lists.push_lists.Given as goal

abbrev pub invariant-loop-i : goal.invariant-loop-i
invariant-loop-i l = record {
  done : l.cells.items ≡ l.initial.cells.items ++ moved l.start (copies l.i l.size l.part);
}
