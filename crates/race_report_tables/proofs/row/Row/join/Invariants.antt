use Rattle.std.proofs.Common.{◌≡◌, ℕ, max, slice_index}
use Rattle.race_report_tables.proofs.Rows.{joined_below}
use Rattle.race_report_tables.proofs.row.Row.join.Given as goal

abbrev pub invariant-loop-thread : goal.invariant-loop-thread
invariant-loop-thread l =
    (u : ℕ) → slice_index l.self u ≡ max (slice_index l.initial.self u) (joined_below l.other l.thread u)
