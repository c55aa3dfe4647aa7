use Rattle.std.proofs.Common.{◌≡◌, ℕ, ◌<◌, [], length, map, slice_index_or}
use Rattle.upc_values.specs.Orders.{operations_of}
use Rattle.race_report.specs.code.Own.{own}
use Rattle.race_report.proofs.own.all_operations.Given as goal

abbrev pub invariant-loop-thread : goal.invariant-loop-thread
invariant-loop-thread l = record {
  many : length l.lists.items ≡ l.thread;
  each : (t : ℕ) → t < l.thread → slice_index_or l.lists.items t [] ≡ map own (operations_of l.journal t);
}
