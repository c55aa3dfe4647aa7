-- What a thread's action does to a run with a copy of the shared memory for each thread (UPC 5.1.2.3, Appendix B).
use Rattle.std.specs.Prelude.{ℕ, ◌≡◌, true, List, [], ◌∷◌, ◌++◌, Option, Some, None}
use Rattle.upc_values.specs.declared.action.Action.{Action}
use Rattle.upc_values.specs.declared.action.Reply.{Reply}
use Rattle.upc_values.specs.Openings.{Opening}
use Rattle.upc_values.specs.History.{reply}
use Rattle.upc_values.specs.Formed.{fits_after}
use Rattle.upc_values.specs.layer.Known.{gives_known}
use Rattle.upc_values.specs.Strands.{may_wait}
use Rattle.replica_space.specs.declared.event.Event.{Event}
use Rattle.replica_space.specs.Events.{did, history_in}
use Rattle.replica_space.specs.Spaces.{is_synchronising}
use Rattle.replica_space.specs.Runs.{replica_reply}
use Rattle.replica_space_mail.specs.layer.Deliveries.{with_due}

-- The events, and, where the action synchronises, the deliveries by thread t of all mail that waits after them.
abbrev pub events_before : Opening → ℕ → Action → List Event → List Event
events_before o t a es = with_due (is_synchronising a) t o.threads es

-- Action i of thread t, with this answer, has led from the first events to the second ones: with none, the action has
-- no reply now, and nothing has changed; with a reply, which is the lawful one once what is due is delivered, it stands
-- after that as an event.
abbrev pub Acted : Opening → ℕ → ℕ → Action → List Event → Option Reply → List Event → Type 0
Acted o t i a es None new = (reply o (history_in es) t a ≡ None) × (new ≡ es)
Acted o t i a es (Some r) new =
    (replica_reply o (events_before o t a es) t a ≡ Some r) × (new ≡ events_before o t a es ++ did t i a r ∷ [])

-- What an answer says of itself after these events: a reply fits and is known, and with none the action may wait and
-- has no reply now.
abbrev pub IsAnswer : Opening → ℕ → Action → List Event → Option Reply → Type 0
IsAnswer o t a es None = (may_wait a ≡ true) × (reply o (history_in es) t a ≡ None)
IsAnswer o t a es (Some r) =
    (fits_after o (history_in es) a r ≡ true) × (gives_known o (history_in es) r ≡ true)
