use Rattle.std.proofs.Common.{ℕ, ◌≡◌, ◌<◌, false}
use Rattle.std.specs.Prelude.{slice_index_or}
use Rattle.replica_space_parts.specs.declared.seated.Seated.{Seated}
use Rattle.replica_space_rounds.proofs.round.has_failed.Given as goal

abbrev pub invariant-loop-at : goal.invariant-loop-at
invariant-loop-at l = (i : ℕ) (d : Seated) → i < l.at → (slice_index_or l.places i d).failed ≡ false
