use Rattle.std.proofs.Common.{◌≡◌, length, take}
use Rattle.block_layout.specs.code.Runs.{runs_cells}
use Rattle.block_layout.proofs.same_runs.same_runs.Given as goal

abbrev pub invariant-loop-i : goal.invariant-loop-i
invariant-loop-i l = record {
  equal : runs_cells (take l.i l.a) ≡ runs_cells (take l.i l.b);
  lengths : length l.a ≡ length l.b;
}
