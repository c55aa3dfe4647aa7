use Rattle.std.proofs.Common.{◌≡◌, ◌++◌}
use Rattle.block_layout.specs.Moved.{moved, copies}
use Rattle.block_layout.specs.code.Runs.{runs_cells}
use Rattle.block_layout.proofs.runs.push_run_copies.Given as goal

abbrev pub invariant-loop-i : goal.invariant-loop-i
invariant-loop-i l = record {
  done : runs_cells l.to.items ≡ runs_cells l.initial.to.items ++ moved l.start (copies l.i l.size (runs_cells l.runs));
}
