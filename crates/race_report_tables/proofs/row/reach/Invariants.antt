use Rattle.std.proofs.Common.{◌≡◌, ℕ, ◌+◌, ◌-◌, length, slice_index}
use Rattle.race_report_tables.proofs.row.reach.Given as goal

abbrev pub invariant-loop-numbers : goal.invariant-loop-numbers
invariant-loop-numbers l = (u : ℕ) → slice_index l.numbers.items u ≡ slice_index l.initial.numbers.items u

abbrev pub decreases-loop-numbers : goal.decreases-loop-numbers
decreases-loop-numbers l = l.at + 1 - length l.numbers.items
