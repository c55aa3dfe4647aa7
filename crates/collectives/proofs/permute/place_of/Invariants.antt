use Rattle.std.proofs.Common.{◌≡◌, ℕ, ◌<◌, false, pos}
use Rattle.std.specs.Prelude.{slice_index_or}
use Rattle.std.specs.Ordering.{int_eq}
use Rattle.collectives.proofs.permute.place_of.Given as goal

abbrev pub invariant-loop-place : goal.invariant-loop-place
invariant-loop-place l = (k : ℕ) → k < l.place → int_eq (slice_index_or l.numbers k (pos 0)) (pos l.thread) ≡ false
