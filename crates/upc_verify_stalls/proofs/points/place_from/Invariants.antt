use Rattle.std.proofs.Common.{ℕ, ◌<◌, ◌≤◌, ◌-◌, length, get_or}
use Rattle.upc_values.specs.declared.journal.Entry.{Entry}
use Rattle.upc_verify_stalls.proofs.points.place_from.Given as goal

-- the entries before the place are numbered below
abbrev pub invariant-loop-place : goal.invariant-loop-place
invariant-loop-place l = record {
  within : l.place ≤ length l.entries;
  less : (i : ℕ) (d : Entry) → i < l.place → (get_or l.entries i d).index < l.number;
}

abbrev pub decreases-loop-place : goal.decreases-loop-place
decreases-loop-place l = length l.entries - l.place
