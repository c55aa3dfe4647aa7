use Rattle.std.proofs.Common.{◌≡◌, replicate}
use Rattle.replica_space_copies.proofs.copies.no_clocks.Given as goal

abbrev pub invariant-loop : goal.invariant-loop
invariant-loop l = l.clocks.items ≡ replicate l.counter 0
