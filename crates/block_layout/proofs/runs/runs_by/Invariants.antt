use Rattle.std.proofs.Common.{◌-◌, ◌<◌, ◌≤◌, length, drop, get_or}
use Rattle.block_layout.specs.code.Runs.{Repeated, BeginsBehind, first_of, run_cells, runs_cells}
use Rattle.block_layout.proofs.runs.runs_by.Given as goal

abbrev pub invariant-loop-low : goal.invariant-loop-low
invariant-loop-low l = record {
  low : l.low ≤ l.high;
  high : l.high ≤ length l.runs;
  by : (d : Repeated) → 0 < l.low → (0 < length (run_cells (get_or l.runs (l.low - 1) d))) × (first_of (run_cells (get_or l.runs (l.low - 1) d)) ≤ l.place);
  behind : BeginsBehind l.place (runs_cells (drop l.high l.runs));
}

abbrev pub decreases-loop-low : goal.decreases-loop-low
decreases-loop-low l = l.high - l.low
