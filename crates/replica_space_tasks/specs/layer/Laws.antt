-- What a run takes of what its workers keep.
use Rattle.std.specs.Prelude.{ℕ, ◌≡◌, ◌<◌, true, List, [], ◌++◌, Some, is_some}
use Rattle.upc_values.specs.declared.action.Action.{Action}
use Rattle.upc_values.specs.Openings.{Opening, IsOpening}
use Rattle.upc_values.specs.Formed.{IsWellFormed, AreWellFormed}
use Rattle.stack_code.specs.layer.Codes.{Codes}
use Rattle.stack_machine.specs.declared.wish.Wish.TheVariants.{Act}
use Rattle.replica_space.specs.declared.event.Event.{Event}
use Rattle.replica_space.specs.Events.{history_in}
use Rattle.replica_space.specs.Runs.{IsReplicaRun}
use Rattle.replica_space.specs.ReplicaSound.{AreDelivered, IsReplicaStrand}
use Rattle.upc_task.specs.layer.Sources.{Outcomes}
use Rattle.upc_task.specs.layer.Recorded.{strand_of}
use Rattle.replica_space_tasks.specs.declared.worker.ReplicaWorker.{ReplicaWorker}
use Rattle.replica_space_tasks.specs.layer.Kept.{IsKept, AreDeliveredBy, events_of}

-- What a worker keeps holds of each longer list that has no further event of its own.
abbrev pub StaysOverOthers : Type 0
StaysOverOthers =
    (o : Opening) (p : Codes) (f : Outcomes) (events more : List Event) (k : ReplicaWorker)
    → events_of k.recorder.thread more ≡ [] → IsKept o p f events k → IsKept o p f (events ++ more) k

-- What a worker wishes to do may be asked for.
abbrev pub WishesAreFormed : Type 0
WishesAreFormed =
    (o : Opening) (p : Codes) (f : Outcomes) (events : List Event) (k : ReplicaWorker) (a : Action) → IsOpening o
    → IsReplicaRun o events → AreWellFormed o (history_in events) → IsKept o p f events k
    → k.recorder.wish ≡ Some (Act a) → IsWellFormed o (history_in events) a

-- The strand of a worker that has its end is one of a sound journal.
abbrev pub StrandsAreSound : Type 0
StrandsAreSound =
    (o : Opening) (p : Codes) (f : Outcomes) (events : List Event) (k : ReplicaWorker) → IsKept o p f events k
    → is_some k.recorder.«end» ≡ true
    → IsReplicaStrand o k.recorder.thread k.recorder.limits.actions (history_in events) (f k.recorder.thread)
    (strand_of f k.recorder)

-- A run in which each thread has come so to its actions delivers what is due.
abbrev pub RunsDeliver : Type 0
RunsDeliver =
    (o : Opening) (events : List Event) → IsReplicaRun o events
    → ((t : ℕ) → t < o.threads → AreDeliveredBy o.threads t events) → AreDelivered o.threads events
