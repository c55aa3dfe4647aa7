use Rattle.std.proofs.Common.{◌≡◌, ℕ, ◌<◌, [], length, map, get_or}
use Rattle.upc_values.specs.Orders.{record_of}
use Rattle.upc_verify_stalls.specs.code.Points.{waiting_of, waitings}
use Rattle.upc_verify_stalls.specs.layer.Wants.{want_of}
use Rattle.upc_verify_stalls.proofs.journal.all_points.Given as goal

-- the Stalls of the threads so far
abbrev pub invariant-loop-thread : goal.invariant-loop-thread
invariant-loop-thread l = record {
  many : length l.points.items ≡ l.thread;
  each : (t : ℕ) → t < l.thread
      → map waiting_of (get_or l.points.items t []) ≡ waitings t (want_of l.wants t) [] (record_of l.journal t);
}
