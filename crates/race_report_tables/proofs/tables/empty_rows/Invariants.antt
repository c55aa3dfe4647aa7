use Rattle.std.proofs.Common.{◌≡◌, ℕ, [], length, slice_index_or}
use Rattle.race_report_tables.proofs.tables.empty_rows.Given as goal

abbrev pub invariant-loop-thread : goal.invariant-loop-thread
invariant-loop-thread l = record {
  many : length l.rows.items ≡ l._thread;
  empty : (t : ℕ) → slice_index_or l.rows.items t [] ≡ [];
}
