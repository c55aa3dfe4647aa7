use Rattle.std.proofs.Common.{ℕ, ◌≡◌, ◌<◌, ◌≤◌, length, slice_index_or}
use Rattle.upc_rounds_teams.specs.declared.place.Place.{Place}
use Rattle.upc_rounds_teams.specs.layer.Teams.{Met, seen_at}
use Rattle.upc_rounds_teams.proofs.meeting.spread_all.Given as goal

abbrev pub invariant-loop-i : goal.invariant-loop-i
invariant-loop-i l = record {
  many : length l.others ≡ length l.fn.others;
  first : Met l.fn.first l.first;
  stays : seen_at l.first ≡ seen_at l.fn.first;
  others : (i : ℕ) (d : Place) → i < length l.fn.others → Met (slice_index_or l.fn.others i d) (slice_index_or l.others i d);
  done : (i : ℕ) (d : Place) → i < l.i → seen_at (slice_index_or l.others i d) ≡ seen_at l.fn.first;
  left : (i : ℕ) (d : Place) → l.i ≤ i → i < length l.fn.others → seen_at (slice_index_or l.others i d) ≡ seen_at (slice_index_or l.fn.others i d);
}
