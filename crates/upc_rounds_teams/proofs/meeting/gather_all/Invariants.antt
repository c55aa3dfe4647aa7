use Rattle.std.proofs.Common.{ℕ, ◌≡◌, ◌<◌, length, slice_index_or}
use mathlib.Core.List.{IsPrefix}
use Rattle.upc_values.specs.Lists.{Numbered}
use Rattle.upc_values.specs.Openings.{Opening}
use Rattle.upc_task.specs.layer.Seated.{IsLawful}
use Rattle.upc_rounds_teams.specs.declared.place.Place.{Place}
use Rattle.upc_rounds_teams.specs.layer.Teams.{Met, seen_at}
use Rattle.upc_rounds_teams.proofs.meeting.gather_all.Given as goal

abbrev pub invariant-loop-i : goal.invariant-loop-i
invariant-loop-i l = record {
  many : length l.others ≡ length l.fn.others;
  first : Met l.fn.first l.first;
  others : (i : ℕ) (d : Place) → i < length l.fn.others → Met (slice_index_or l.fn.others i d) (slice_index_or l.others i d);
  same : (i : ℕ) (d : Place) → i < length l.fn.others → seen_at (slice_index_or l.others i d) ≡ seen_at (slice_index_or l.fn.others i d);
  begins : (i : ℕ) (d : Place) → i < l.i → IsPrefix (seen_at (slice_index_or l.fn.others i d)) (seen_at l.first);
  lawful : (o : Opening) → IsLawful o (seen_at l.fn.first) → Numbered (λ i k. IsLawful o (seen_at k)) l.fn.others → IsLawful o (seen_at l.first);
}
