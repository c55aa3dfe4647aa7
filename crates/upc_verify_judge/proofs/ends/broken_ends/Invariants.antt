use Rattle.std.proofs.Common.{ℕ, ◌<◌}
use Rattle.upc_verify_parts.specs.Parts.{EndHolds}
use Rattle.upc_verify_judge.specs.layer.Meanings.{outcome_in}
use Rattle.upc_verify_judge.proofs.ends.broken_ends.Given as goal

-- the ends so far have their causes
abbrev pub invariant-loop-thread : goal.invariant-loop-thread
invariant-loop-thread l = (t : ℕ) → t < l.thread → EndHolds l.world.0 l.journal (outcome_in l.meant t).«end» t
