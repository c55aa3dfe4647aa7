use Rattle.std.proofs.Common.{◌≡◌, ◌++◌, take}
use Rattle.block_layout.specs.Cells.{moved}
use Rattle.block_layout.proofs.cell_lists.push_moved.Given as goal

abbrev pub invariant-loop-offset : goal.invariant-loop-offset
invariant-loop-offset l = record {
  done : l.cells.items ≡ l.initial.cells.items ++ moved l.start (take l.offset-index l.part);
}
