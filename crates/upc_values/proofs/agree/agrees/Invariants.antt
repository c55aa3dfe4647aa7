use Rattle.std.proofs.Common.{◌≡◌, ℕ, ◌<◌, get_or, All}
use Rattle.upc_values.specs.declared.journal.Strand.{Strand}
use Rattle.upc_values.specs.Agrees.{IsIn}
use Rattle.upc_values.proofs.agree.agrees.Given as goal

-- the entries of the threads so far are in their records
abbrev pub invariant-loop-thread : goal.invariant-loop-thread
invariant-loop-thread l = (t : ℕ) (d : Strand) → t < l.thread → All (λ e. e.thread ≡ t → IsIn (get_or l.strands t d).items e) l.history
