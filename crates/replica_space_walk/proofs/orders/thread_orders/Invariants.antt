use Rattle.std.proofs.Common.{ℕ, ◌≡◌, ◌≤◌, ◌<◌, [], map, length, slice_index_or}
use Rattle.replica_space_copies.specs.layer.Copies.{space_of}
use Rattle.replica_space_walk.specs.code.Walking.{row_of, with_mail_of}
use Rattle.replica_space_walk.proofs.orders.thread_orders.Given as goal

abbrev pub invariant-loop-thread : goal.invariant-loop-thread
invariant-loop-thread l = record {
  even : length l.left.items ≡ l.threads;
  many : length l.orders.items ≡ l.thread;
  left : (t : ℕ) → l.thread ≤ t → row_of t l.left.items ≡ row_of t l.initial.left.items;
  each : (t : ℕ) → t < l.thread → slice_index_or l.orders.items t []
      ≡ map (λ m. m.name) (with_mail_of l.threads ((space_of l.copies).mail t) (row_of t l.initial.left.items));
}
