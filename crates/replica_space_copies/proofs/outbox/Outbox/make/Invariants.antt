use Rattle.std.proofs.Common.{◌≡◌, replicate}
use Rattle.replica_space_copies.proofs.outbox.Outbox.make.Given as goal

abbrev pub invariant-loop : goal.invariant-loop
invariant-loop l = l.taken.items ≡ replicate l.counter 0
