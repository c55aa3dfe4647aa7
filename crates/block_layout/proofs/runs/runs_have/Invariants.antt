use Rattle.std.proofs.Common.{◌≡◌, drop}
use Rattle.block_layout.specs.code.Runs.{runs_cells}
use Rattle.block_layout.specs.Shapes.{has_cell}
use Rattle.block_layout.proofs.runs.runs_have.Given as goal

abbrev pub invariant-loop-run : goal.invariant-loop-run
invariant-loop-run l = has_cell (runs_cells (drop l.run-index l.runs)) l.place l.kind ≡ has_cell (runs_cells l.runs) l.place l.kind
