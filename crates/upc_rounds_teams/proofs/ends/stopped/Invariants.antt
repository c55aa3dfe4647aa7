use Rattle.std.proofs.Common.{◌≡◌, ℕ, ◌<◌, Some, false}
use Rattle.std.specs.Prelude.{slice_index_or}
use Rattle.upc_values.specs.declared.record.End.{End}
use Rattle.upc_values.specs.Ends.{stops}
use Rattle.upc_rounds_teams.specs.declared.place.Place.{Place}
use Rattle.upc_rounds_teams.proofs.ends.stopped.Given as goal

abbrev pub invariant-loop-at : goal.invariant-loop-at
invariant-loop-at l = (i : ℕ) (d : Place) → i < l.at → (e : End) → (slice_index_or l.places i d).task.worker.«end» ≡ Some e → stops e ≡ false
