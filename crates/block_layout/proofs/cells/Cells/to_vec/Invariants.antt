use Rattle.std.proofs.Common.{◌≡◌, ◌++◌}
use Rattle.block_layout.proofs.cells.Cells.to_vec.Given as goal

abbrev pub invariant-loop-cell : goal.invariant-loop-cell
invariant-loop-cell l = l.list.items ++ l.cell-iterator ≡ l.self
