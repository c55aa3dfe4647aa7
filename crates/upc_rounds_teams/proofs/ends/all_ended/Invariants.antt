use Rattle.std.proofs.Common.{◌≡◌, ℕ, ◌<◌, is_some, true}
use Rattle.std.specs.Prelude.{slice_index_or}
use Rattle.upc_rounds_teams.specs.declared.place.Place.{Place}
use Rattle.upc_rounds_teams.proofs.ends.all_ended.Given as goal

abbrev pub invariant-loop-at : goal.invariant-loop-at
invariant-loop-at l = (i : ℕ) (d : Place) → i < l.at → is_some (slice_index_or l.places i d).task.worker.«end» ≡ true
