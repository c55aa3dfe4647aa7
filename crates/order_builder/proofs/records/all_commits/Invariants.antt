use Rattle.std.proofs.Common.{◌≡◌, ℕ, ◌<◌, length, slice_index_or}
use Rattle.upc_values.specs.Drain.{commits}
use Rattle.upc_values.specs.Orders.{record_of}
use Rattle.order_builder.specs.layer.Commits.{Holds, no_commits}
use Rattle.order_builder.proofs.records.all_commits.Given as goal

abbrev pub invariant-loop-thread : goal.invariant-loop-thread
invariant-loop-thread l = record {
  many : length l.all.items ≡ l.thread;
  each : (t : ℕ) → t < l.thread → Holds (slice_index_or l.all.items t no_commits) (commits t (record_of l.journal t));
}
