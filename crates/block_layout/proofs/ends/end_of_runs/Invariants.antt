use Rattle.std.proofs.Common.{take}
use Rattle.block_layout.specs.code.Runs.{runs_cells}
use Rattle.block_layout.specs.Shapes.{LieUpTo}
use Rattle.block_layout.proofs.ends.end_of_runs.Given as goal

abbrev pub invariant-loop-run : goal.invariant-loop-run
invariant-loop-run l = LieUpTo (runs_cells (take l.run-index l.runs)) 0 l.end
