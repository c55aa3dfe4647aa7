use Rattle.std.proofs.Common.{ℕ, ◌<◌}
use Rattle.upc_values.specs.Strands.{Conforms}
use Rattle.upc_verify_parts.specs.Parts.{strand_of}
use Rattle.upc_verify_judge.specs.layer.Meanings.{outcome_in}
use Rattle.upc_verify_judge.proofs.strands.broken_strands.Given as goal

-- the strands so far are what their sources come to
abbrev pub invariant-loop-thread : goal.invariant-loop-thread
invariant-loop-thread l = (t : ℕ) → t < l.thread → Conforms (outcome_in l.meant t) (strand_of l.journal t)
