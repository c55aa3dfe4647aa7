-- What a thread delivers before an action, and what the events are to its record.
use Rattle.std.specs.Prelude.{ℕ, ◌≡◌, ◌≢◌, ◌%◌, ◌⊎◌, true, false, Bool, List, [], ◌∷◌, ◌++◌}
use Rattle.upc_values.specs.declared.action.Action.{Action}
use Rattle.upc_values.specs.declared.action.Reply.{Reply}
use Rattle.upc_values.specs.declared.record.Item.{Item}
use Rattle.upc_values.specs.Drain.{entry_of, entries_of}
use Rattle.upc_values.specs.Openings.{Opening}
use Rattle.upc_values.specs.layer.Known.{AreKnown}
use Rattle.upc_values.specs.Outcomes.{wanted}
use Rattle.upc_values.specs.Records.{replies_of}
use Rattle.replica_space.specs.declared.event.Event.{Event}
use Rattle.replica_space.specs.Events.{delivered, history_in}
use Rattle.replica_space.specs.Runs.{next_index}
use Rattle.replica_space.specs.Spaces.{is_synchronising, space_after}
use Rattle.replica_space.specs.ReplicaSound.{AreJustifiedAlone, delivered_by, own_entries}
use Rattle.upc_task.specs.layer.Sources.{Outcomes}
use Rattle.replica_space_tasks.specs.layer.Kept.{AreDeliveredBy, Grew}

-- Thread t of n has delivered to itself the oldest message that waited from thread i modulo n, where one did.
abbrev pub HasTaken : (n t i : ℕ) → List Event → List Event → Type 0
HasTaken n t i old new =
    (((space_after n old).mail t (i % n) ≢ []) × (new ≡ old ++ delivered t t (i % n) ∷ []))
    ⊎ (((space_after n old).mail t (i % n) ≡ []) × (new ≡ old))

-- So it has, or nothing has happened, before an action that meets all others.
abbrev pub IsDue : Bool → (n t i : ℕ) → List Event → List Event → Type 0
IsDue true n t i old new = new ≡ old
IsDue false n t i old new = HasTaken n t i old new

-- Before its action i thread t of n has delivered what is due: before a synchronising action, nothing by itself.
abbrev pub HasDelivered : (n t i : ℕ) → Action → List Event → List Event → Type 0
HasDelivered n t i a old new = IsDue (is_synchronising a) n t i old new

-- Thread t of n has done its action i with this reply, as the last event, after what it delivered before it.
pub record HasActed (n t i : ℕ) (a : Action) (r : Reply) (old new : List Event) : Type 0 where
  pub grew : Grew t old new
  pub history : history_in new ≡ history_in old ++ entry_of t i a r ∷ []
  pub delivers : AreDeliveredBy n t old → AreDeliveredBy n t new
  pub none : delivered_by t new ≡ 0

-- What the events are to a record of thread t, of which the next action has this number.
pub record IsInRun (o : Opening) (f : Outcomes) (events : List Event) (t next : ℕ) (items : List Item)
    : Type 0 where
  pub own : entries_of t (history_in events) ≡ own_entries t items
  pub number : next ≡ next_index t events
  pub justified : AreJustifiedAlone o t (history_in events) (wanted (f t (replies_of items)).«end») [] items
  pub known : AreKnown o (history_in events) (replies_of items)
  pub delivers : AreDeliveredBy o.threads t events
  pub none : delivered_by t events ≡ 0
