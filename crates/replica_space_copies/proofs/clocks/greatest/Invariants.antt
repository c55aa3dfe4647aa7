use Rattle.std.proofs.Common.{◌≡◌, slice_index}
use Rattle.replica_space.specs.Spaces as said
use Rattle.replica_space_copies.proofs.clocks.greatest.Given as goal

abbrev pub invariant-loop-clock : goal.invariant-loop-clock
invariant-loop-clock l = l.latest ≡ said.greatest l.clock-index (λ t. slice_index l.clocks t)
