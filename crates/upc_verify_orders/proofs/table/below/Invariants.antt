use Rattle.std.proofs.Common.{◌-◌, ◌<◌, ◌≤◌, length, ℕ, get_or}
use Rattle.upc_verify_orders.specs.declared.table.Point.{Point}
use Rattle.upc_verify_orders.proofs.table.below.Given as goal

abbrev pub invariant-loop-low : goal.invariant-loop-low
invariant-loop-low l = record {
  order : l.low ≤ l.high;
  within : l.high ≤ length l.points;
  less : (i : ℕ) (d : Point) → i < l.low → (get_or l.points i d).rank < l.rank;
  more : (i : ℕ) (d : Point) → l.high ≤ i → i < length l.points → l.rank ≤ (get_or l.points i d).rank;
}

abbrev pub decreases-loop-low : goal.decreases-loop-low
decreases-loop-low l = l.high - l.low
