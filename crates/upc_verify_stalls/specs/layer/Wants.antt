-- The actions that are wanted after the records, and the Stalls of all threads.
use Rattle.std.specs.Prelude.{ℕ, ◌≡◌, ◌<◌, List, [], length, map, Option, None, option_copied, slice_index_or}
use Rattle.std.specs.Borrow.{Bor}
use Rattle.upc_values.specs.declared.action.Action.{Action}
use Rattle.upc_values.specs.declared.journal.Journal.{Journal}
use Rattle.upc_values.specs.Orders.{record_of}
use Rattle.upc_verify_stalls.specs.declared.points.Point.{Point}
use Rattle.upc_verify_stalls.specs.code.Points.{waiting_of, waitings}

-- The action that is wanted after the record of a thread, if one is.
abbrev pub want_of : List (Option (Bor Action)) → ℕ → Option Action
want_of wants t = option_copied (slice_index_or wants t None)

-- For each thread of the journal, the Stalls of its record.
pub record ArePointsOf (j : Journal) (wants : List (Option (Bor Action))) (points : List (List Point)) : Type 0 where
  pub many : length points ≡ j.threads
  pub each : (t : ℕ) → t < j.threads
      → map waiting_of (slice_index_or points t []) ≡ waitings t (want_of wants t) [] (record_of j t)
