use Rattle.std.proofs.Common.{◌-◌, ◌<◌, ◌≤◌, length, ℕ, get_or}
use Rattle.upc_values.specs.Operations.{Operation}
use Rattle.upc_verify_orders.specs.code.Found.{IsBefore}
use Rattle.upc_verify_orders.proofs.find.count_before.Given as goal

abbrev pub invariant-loop-low : goal.invariant-loop-low
invariant-loop-low l = record {
  order : l.low ≤ l.high;
  within : l.high ≤ length l.operations;
  less : (i : ℕ) (d : Operation) → i < l.low → IsBefore (get_or l.operations i d) l.name;
  more : (i : ℕ) (d : Operation) → l.high ≤ i → i < length l.operations → IsBefore (get_or l.operations i d) l.name → ⊥;
}

abbrev pub decreases-loop-low : goal.decreases-loop-low
decreases-loop-low l = l.high - l.low
