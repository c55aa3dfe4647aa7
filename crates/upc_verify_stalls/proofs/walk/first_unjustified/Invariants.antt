use Rattle.std.proofs.Common.{ℕ, ◌<◌}
use Rattle.upc_verify_stalls.specs.code.Watches.{IsDone}
use Rattle.upc_verify_stalls.proofs.walk.first_unjustified.Given as goal

-- all Stalls of the threads so far were found justified
abbrev pub invariant-loop-thread : goal.invariant-loop-thread
invariant-loop-thread l = (t : ℕ) → t < l.thread → IsDone l.points l.watches t
