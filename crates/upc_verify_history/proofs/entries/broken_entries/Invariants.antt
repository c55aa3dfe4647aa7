use Rattle.std.proofs.Common.{ℕ, ◌<◌}
use Rattle.upc_verify_parts.specs.Parts.{Drains}
use Rattle.upc_verify_history.proofs.entries.broken_entries.Given as goal

-- the records of the threads so far emit their entries
abbrev pub invariant-loop-thread : goal.invariant-loop-thread
invariant-loop-thread l = (t : ℕ) → t < l.thread → Drains l.journal t
