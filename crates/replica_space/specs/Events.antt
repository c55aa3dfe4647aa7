-- The events of a run in which each thread has its own copy of the shared memory, and the history in them.
use Rattle.std.specs.Prelude.{ℕ, List, Option, Some, None}
use Rattle.std.specs.List.{filter_map}
use Rattle.upc_values.specs.declared.action.Action.{Action}
use Rattle.upc_values.specs.declared.action.Reply.{Reply}
use Rattle.upc_values.specs.declared.journal.Entry.{Entry}
use Rattle.upc_values.specs.Drain.{entry_of}
use Rattle.replica_space.specs.declared.event.Event.{Event}
use Rattle.replica_space.specs.declared.event.Deed.{Deed}
use Rattle.replica_space.specs.declared.event.Deed.TheVariants.{Did, Delivered}

-- Action i of thread t, with its reply, as an event.
abbrev pub did : ℕ → ℕ → Action → Reply → Event
did t i a r = record { by = t; deed = Did i a r }

-- The event in which thread t delivers the oldest message to thread `to` from thread `from`.
abbrev pub delivered : ℕ → ℕ → ℕ → Event
delivered t to from = record { by = t; deed = Delivered to from }

-- The entry that a deed of thread t is, if it is an action.
abbrev pub entry_by : ℕ → Deed → Option Entry
entry_by t (Did i a r) = Some (entry_of t i a r)
entry_by t (Delivered to from) = None

-- The history in some events: their actions with their replies, in order.
abbrev pub history_in : List Event → List Entry
history_in es = filter_map (λ e. entry_by e.by e.deed) es
