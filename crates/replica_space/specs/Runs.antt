-- Which lists of events are runs with a copy of the shared memory for each thread (UPC 5.1.2.3, Appendix B).
use Rattle.std.specs.Prelude.{ℕ, ◌≡◌, ◌≢◌, ◌<◌, true, List, [], ◌∷◌, ◌++◌, length, Option, Some, None}
use Rattle.block_layout.specs.declared.place.Loc.{Loc}
use Rattle.upc_values.specs.declared.scalar.Scalar.{Scalar}
use Rattle.upc_values.specs.declared.action.Action.{Action}
use Rattle.upc_values.specs.declared.action.Action.TheVariants as act
use Rattle.upc_values.specs.declared.action.Reply.{Reply}
use Rattle.upc_values.specs.Drain.{entries_of, or_else}
use Rattle.upc_values.specs.Openings.{Opening, initial_of}
use Rattle.upc_values.specs.History.{objects, reply, value_reply}
use Rattle.replica_space.specs.declared.message.Message.{Message}
use Rattle.replica_space.specs.declared.event.Event.{Event}
use Rattle.replica_space.specs.declared.event.Deed.{Deed}
use Rattle.replica_space.specs.declared.event.Deed.TheVariants.{Did, Delivered}
use Rattle.replica_space.specs.Events.{history_in}
use Rattle.replica_space.specs.Spaces.{Space, is_synchronising, space_after}

-- The value of a message, if there is one.
abbrev pub value_in : Option Message → Option Scalar
value_in (Some m) = Some m.value
value_in None = None

-- What thread t reads at a location after these events: the value in its copy, else what the location begins with.
abbrev pub seen : Opening → List Event → ℕ → Loc → Option Scalar
seen o es t l = or_else (value_in ((space_after o.threads es).copy t l)) (initial_of o (objects o (history_in es)) l)

-- The one lawful reply of the action by thread t after these events, or none: that of a read is what the thread reads,
-- and every other one is that of the history in them.
abbrev pub replica_reply : Opening → List Event → ℕ → Action → Option Reply
replica_reply o es t (act.Read l s) = value_reply (seen o es t l)
replica_reply o es t a = reply o (history_in es) t a

-- No message waits for any of the first n threads from any of them.
abbrev pub NoneWaits : ℕ → Space → Type 0
NoneWaits n s = (to from : ℕ) → to < n → from < n → s.mail to from ≡ []

-- The number of thread t's next action after these events.
abbrev pub next_index : ℕ → List Event → ℕ
next_index t es = length (entries_of t (history_in es))

-- A deed of thread t may come after these events: an action with its number and its lawful reply, a synchronising one
-- where no message waits for anyone; and a delivery of a message that waits.
abbrev pub MayDo : Opening → List Event → ℕ → Deed → Type 0
MayDo o before t (Did i a r) =
    (i ≡ next_index t before)
    × (replica_reply o before t a ≡ Some r)
    × (is_synchronising a ≡ true → NoneWaits o.threads (space_after o.threads before))
MayDo o before t (Delivered to from) =
    (to < o.threads) × (from < o.threads) × ((space_after o.threads before).mail to from ≢ [])

-- Each of these events, which stand after others, is of one of the threads and may come after the events before it.
abbrev pub IsReplicaRunFrom : Opening → List Event → List Event → Type 0
IsReplicaRunFrom o before [] = Unit {0}
IsReplicaRunFrom o before (e ∷ es) =
    (e.by < o.threads) × MayDo o before e.by e.deed × IsReplicaRunFrom o (before ++ e ∷ []) es

-- A replica run: each event may come after the events before it.
abbrev pub IsReplicaRun : Opening → List Event → Type 0
IsReplicaRun o es = IsReplicaRunFrom o [] es
