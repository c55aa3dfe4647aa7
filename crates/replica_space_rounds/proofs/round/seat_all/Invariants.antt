use Rattle.std.proofs.Common.{◌≡◌, ◌+◌, ◌++◌, length, map}
use Rattle.std.specs.Vec.Iter.{into_iter_items, into_iter_len}
use Rattle.replica_space_rounds.specs.layer.Rounds.{seat_of, workers_of}
use Rattle.replica_space_rounds.proofs.round.seat_all.Given as goal

abbrev pub invariant-loop-worker : goal.invariant-loop-worker
invariant-loop-worker l = record {
  all : l.yielded ++ into_iter_items l.worker-iterator ≡ l.fn.workers.items;
  workers : workers_of l.places.items ≡ l.yielded;
  seats : map seat_of l.places.items ++ into_iter_items l.free ≡ l.fn.seats.items;
  left : into_iter_len l.free + length l.yielded ≡ length l.fn.seats.items;
}
