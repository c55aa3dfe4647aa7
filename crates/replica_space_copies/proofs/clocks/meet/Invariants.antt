use Rattle.std.proofs.Common.{◌≡◌, ℕ, ◌<◌, get_or}
use Rattle.replica_space_copies.proofs.clocks.meet.Given as goal

abbrev pub invariant-loop-clock : goal.invariant-loop-clock
invariant-loop-clock l = (t : ℕ) → t < l.clock-index → get_or l.clocks t 0 ≡ l.latest
