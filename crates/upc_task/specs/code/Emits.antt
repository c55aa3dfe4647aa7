-- What an action does to a write buffer and to the history.
use Rattle.std.specs.Prelude.{ℕ, ◌≡◌, ◌+◌, true, false, List, Option, Some, None}
use Rattle.upc_values.specs.declared.action.Action.{Action}
use Rattle.upc_values.specs.declared.action.Action.TheVariants.{Read, Write, Print}
use Rattle.upc_values.specs.declared.action.Reply.{Reply}
use Rattle.upc_values.specs.declared.journal.Entry.{Entry}
use Rattle.upc_values.specs.Drain.{Walk, emptied, gone, entry_of}
use Rattle.upc_values.specs.Openings.{Opening}
use Rattle.upc_values.specs.History.{reply}
use Rattle.upc_values.specs.Formed.{fits_after}
use Rattle.upc_values.specs.layer.Known.{gives_known}
use Rattle.upc_values.specs.Strands.{may_wait}
use Rattle.write_buffer.specs.declared.pending.Pending.{Pending}
use Rattle.upc_task.specs.declared.emit.Way.{Way}
use Rattle.upc_task.specs.declared.emit.Way.TheVariants.{Stores, Looks, Passes, Empties}
use Rattle.upc_task.specs.layer.Kept.{Holds}

-- How an action goes by the write buffer.
abbrev pub way_of : Action → Way
way_of (Write false l v) = Stores l v
way_of (Read l false) = Looks l
way_of (Print x) = Passes
way_of a = Empties

-- The buffer and the history after an action with this answer, where the walk stood at w before it.
abbrev pub Emitted : Opening → ℕ → List Entry → List Pending → ℕ → Action → Option Reply → Walk → Type 0
Emitted o t seen pending next a None w = Holds o t seen pending next (emptied w)
Emitted o t seen pending next a (Some r) w = Holds o t seen pending (next + 1) (gone (entry_of t next a r) a w)

-- What an answer says of itself: a reply fits and is known, and with none the action may wait and is not legal now.
abbrev pub IsAnswer : Opening → ℕ → List Entry → Action → Option Reply → Type 0
IsAnswer o t seen a None = (may_wait a ≡ true) × (reply o seen t a ≡ None)
IsAnswer o t seen a (Some r) = (fits_after o seen a r ≡ true) × (gives_known o seen r ≡ true)
