-- What a worker without a write buffer keeps, over a prefix of the events that has all events of its own.
use Rattle.std.specs.Prelude.{ℕ, ◌≡◌, ◌==◌, false, List, [], ◌∷◌, ◌++◌, filter}
use Rattle.upc_values.specs.declared.action.Action.{Action}
use Rattle.upc_values.specs.declared.action.Reply.{Reply}
use Rattle.upc_values.specs.Lists.{Each}
use Rattle.upc_values.specs.Drain.{entries_of}
use Rattle.upc_values.specs.Openings.{Opening}
use Rattle.upc_values.specs.layer.Known.{AreKnown}
use Rattle.upc_values.specs.Outcomes.{wanted}
use Rattle.upc_values.specs.Records.{replies_of}
use Rattle.stack_code.specs.layer.Codes.{Codes}
use Rattle.replica_space.specs.declared.event.Event.{Event}
use Rattle.replica_space.specs.Events.{did, history_in}
use Rattle.replica_space.specs.Runs.{next_index}
use Rattle.replica_space.specs.Spaces.{is_synchronising}
use Rattle.replica_space.specs.ReplicaSound.{AreJustifiedAlone, ComesTo, delivered_by, own_entries}
use Rattle.upc_task.specs.declared.worker.Pause.{Pause}
use Rattle.upc_task.specs.declared.worker.Pause.TheVariants as pauses
use Rattle.upc_task.specs.layer.Sources.{Outcomes}
use Rattle.upc_task.specs.layer.Recorded.{IsRecorded, outcome_of}
use Rattle.replica_space_tasks.specs.declared.worker.ReplicaWorker.{ReplicaWorker}

-- The events of thread t, in order.
abbrev pub events_of : ℕ → List Event → List Event
events_of t es = filter (λ e. e.by == t) es

-- All events are of thread t.
abbrev pub AllOf : ℕ → List Event → Type 0
AllOf t es = Each (λ e. e.by ≡ t) es

-- The events grew by events of thread t alone.
pub record Grew (t : ℕ) (old new : List Event) : Type 0 where
  pub more : List Event
  pub is : new ≡ old ++ more
  pub all_own : AllOf t more

-- Thread t, one of n, has come to each of its actions that is not synchronising with the one message delivered that
-- was due there.
abbrev pub AreDeliveredBy : (n t : ℕ) → List Event → Type 0
AreDeliveredBy n t events =
    (before rest : List Event) (i : ℕ) (a : Action) (r : Reply) → events ≡ before ++ did t i a r ∷ rest
    → is_synchronising a ≡ false → ComesTo n before t i

-- What a worker of the program p keeps between two calls, where these are the threads' outcomes and the events have all
-- its own: what is kept of a recorder, that its actions in the events are those of its record, that its stalls are
-- justified and its replies known, and that it delivers just what is due.
pub record IsKept (o : Opening) (p : Codes) (f : Outcomes) (events : List Event) (k : ReplicaWorker) : Type 0 where
  pub recorded : IsRecorded o p f k.recorder
  pub own : entries_of k.recorder.thread (history_in events) ≡ own_entries k.recorder.thread k.recorder.items.items
  pub number : k.recorder.next ≡ next_index k.recorder.thread events
  pub justified :
      AreJustifiedAlone o k.recorder.thread (history_in events) (wanted (outcome_of f k.recorder).«end») []
      k.recorder.items.items
  pub known : AreKnown o (history_in events) (replies_of k.recorder.items.items)
  pub delivers : AreDeliveredBy o.threads k.recorder.thread events
  pub none : delivered_by k.recorder.thread events ≡ 0

-- Whatever its source, a worker that was kept over the one run is kept over the other.
abbrev pub Keeps : Opening × List Event → ReplicaWorker → Opening × List Event → ReplicaWorker → Type 0
Keeps w k x m = (p : Codes) (f : Outcomes) → IsKept w.0 p f w.1 k → IsKept x.0 p f x.1 m

-- Over the same events a worker of the program p stays kept.
abbrev pub StaysKept : Codes → ReplicaWorker → ReplicaWorker → Type 0
StaysKept p k m = (f : Outcomes) (o : Opening) (events : List Event) → IsKept o p f events k → IsKept o p f events m

-- A step with this pause that did no action adds no event.
abbrev pub Stays : Pause → List Event → List Event → Type 0
Stays pauses.Stalled old new = new ≡ old
Stays pauses.Finished old new = new ≡ old
Stays p old new = Unit {0}
