use Rattle.std.proofs.Common.{◌≡◌, replicate}
use Rattle.sync_objects.specs.layer.Barrier.{fresh}
use Rattle.sync_objects.proofs.barrier.Barrier.make.Given as goal

abbrev pub invariant-loop : goal.invariant-loop
invariant-loop l = l.attendances.items ≡ replicate l.counter fresh
