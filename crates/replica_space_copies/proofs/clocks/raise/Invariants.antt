use Rattle.std.proofs.Common.{◌≡◌, ℕ, ◌<◌, ◌≤◌, ◌+◌, get_or}
use Rattle.replica_space_copies.proofs.clocks.raise.Given as goal

abbrev pub invariant-loop-clock : goal.invariant-loop-clock
invariant-loop-clock l = record {
  done : (t : ℕ) → t < l.clock-index → get_or l.clocks t 0 ≡ get_or l.initial.clocks t 0 + 1;
  left : (t : ℕ) → l.clock-index ≤ t → get_or l.clocks t 0 ≡ get_or l.initial.clocks t 0;
}
