use Rattle.std.proofs.Common.{◌≡◌, ℕ, ◌<◌, ◌≤◌, length}
use Rattle.std.specs.Prelude.{slice_index_or}
use Rattle.upc_rounds_teams.specs.declared.place.Place.{Place}
use Rattle.upc_rounds_teams.specs.layer.Runs.{halted}
use Rattle.upc_rounds_teams.proofs.ends.halt_all.Given as goal

abbrev pub invariant-loop-at : goal.invariant-loop-at
invariant-loop-at l = record {
  many : length l.places ≡ length l.initial.places;
  done : (i : ℕ) (d : Place) → i < l.at → (slice_index_or l.places i d).task.worker ≡ halted (slice_index_or l.initial.places i d).task.worker;
  seats : (i : ℕ) (d : Place) → i < length l.initial.places → (slice_index_or l.places i d).task.seat ≡ (slice_index_or l.initial.places i d).task.seat;
  left : (i : ℕ) (d : Place) → l.at ≤ i → slice_index_or l.places i d ≡ slice_index_or l.initial.places i d;
}
