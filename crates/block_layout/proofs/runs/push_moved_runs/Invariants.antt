use Rattle.std.proofs.Common.{◌≡◌, ◌++◌, take}
use Rattle.block_layout.specs.Moved.{moved}
use Rattle.block_layout.specs.code.Runs.{runs_cells}
use Rattle.block_layout.proofs.runs.push_moved_runs.Given as goal

abbrev pub invariant-loop-run : goal.invariant-loop-run
invariant-loop-run l = runs_cells l.to.items ≡ runs_cells l.initial.to.items ++ moved l.start (runs_cells (take l.run-index l.runs))
