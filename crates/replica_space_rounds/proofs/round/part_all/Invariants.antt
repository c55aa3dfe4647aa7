use Rattle.std.proofs.Common.{◌≡◌, ◌++◌, map}
use Rattle.std.specs.Vec.Iter.{into_iter_items}
use Rattle.replica_space_rounds.specs.layer.Rounds.{seat_of, workers_of}
use Rattle.replica_space_rounds.proofs.round.part_all.Given as goal

abbrev pub invariant-loop-place : goal.invariant-loop-place
invariant-loop-place l = record {
  all : l.yielded ++ into_iter_items l.place-iterator ≡ l.fn.places.items;
  workers : l.workers.items ≡ workers_of l.yielded;
  seats : l.seats.items ≡ map seat_of l.yielded;
}
