-- A sound journal of a run with a copy of the shared memory for each thread: records are what the sources give, the
-- events are a replica run that has them, stalls are justified, messages come when they are due, and ends have causes.
use Rattle.std.specs.Prelude.{ℕ, ◌≡◌, ◌≤◌, ◌+◌, ◌%◌, ◌==◌, ◌⊎◌, cond, false, List, [], ◌∷◌, ◌++◌, length}
use Rattle.std.specs.Prelude.{Option, Some, None}
use Rattle.upc_values.specs.declared.action.Action.{Action}
use Rattle.upc_values.specs.declared.action.Reply.{Reply}
use Rattle.upc_values.specs.declared.record.Item.{Item}
use Rattle.upc_values.specs.declared.record.Item.TheVariants as item
use Rattle.upc_values.specs.declared.journal.Entry.{Entry}
use Rattle.upc_values.specs.declared.journal.Strand.{Strand}
use Rattle.upc_values.specs.declared.journal.Journal.{Journal}
use Rattle.upc_values.specs.Lists.{Numbered}
use Rattle.upc_values.specs.Records.{replies_of}
use Rattle.upc_values.specs.Outcomes.{Outcome, wanted}
use Rattle.upc_values.specs.Drain.{entry_of, entries_of}
use Rattle.upc_values.specs.Openings.{Opening}
use Rattle.upc_values.specs.History.{reply}
use Rattle.upc_values.specs.Formed.{AreWellFormed}
use Rattle.upc_values.specs.Strands.{Conforms, next_action}
use Rattle.upc_values.specs.Ends.{OwnEnd, SharedEnd}
use Rattle.replica_space.specs.declared.event.Event.{Event}
use Rattle.replica_space.specs.declared.event.Deed.{Deed}
use Rattle.replica_space.specs.declared.event.Deed.TheVariants.{Did, Delivered}
use Rattle.replica_space.specs.declared.event.ReplicaJournal.{ReplicaJournal}
use Rattle.replica_space.specs.Events.{history_in, did, delivered}
use Rattle.replica_space.specs.Spaces.{is_synchronising, space_after}
use Rattle.replica_space.specs.Runs.{IsReplicaRun}

-- The journal of the same strands and actions, with the history in the events.
abbrev pub as_journal : ReplicaJournal → Journal
as_journal r = record {
  threads = r.threads;
  budget = r.budget;
  actions = r.actions;
  strands = r.strands;
  history = history_in r.events;
}

-- The entries of thread t's items, from action n on, where each action is an entry by itself.
abbrev pub own_from : ℕ → ℕ → List Item → List Entry
own_from t n [] = []
own_from t n (item.Stall ∷ items) = own_from t n items
own_from t n (item.Did a r ∷ items) = entry_of t n a r ∷ own_from t (n + 1) items

-- The entries of thread t's items: each action is one by itself.
abbrev pub own_entries : ℕ → List Item → List Entry
own_entries t items = own_from t 0 items

-- A Stall of t after these items, before the next action: some front of the history has just as many entries of t as
-- these items, and after it the action has no lawful reply.
pub record IsJustifiedAlone (o : Opening) (t : ℕ) (history : List Entry) (before : List Item)
    (next : Option Action) : Type 0 where
  pub front : List Entry
  pub rest : List Entry
  pub is : history ≡ front ++ rest
  pub many : length (entries_of t front) ≡ length (own_entries t before)
  pub action : Action
  pub wants : next ≡ Some action
  pub none : reply o front t action ≡ None

-- Each Stall of the items, which stand after others, is so justified.
abbrev pub AreJustifiedAlone : Opening → ℕ → List Entry → Option Action → List Item → List Item → Type 0
AreJustifiedAlone o t history want before [] = Unit {0}
AreJustifiedAlone o t history want before (item.Did a r ∷ items) =
    AreJustifiedAlone o t history want (before ++ item.Did a r ∷ []) items
AreJustifiedAlone o t history want before (item.Stall ∷ items) =
    IsJustifiedAlone o t history before (next_action want items)
    × AreJustifiedAlone o t history want (before ++ item.Stall ∷ []) items

-- How many messages thread t has delivered since its last action, where it had delivered n before a deed of thread u.
abbrev pub count_after : ℕ → ℕ → ℕ → Deed → ℕ
count_after t n u (Did i a r) = cond (u == t) 0 n
count_after t n u (Delivered to from) = cond (u == t) (n + 1) n

-- How many messages thread t has delivered since its last action after these events, where it had delivered n before.
abbrev pub count_from : ℕ → ℕ → List Event → ℕ
count_from t n [] = n
count_from t n (e ∷ es) = count_from t (count_after t n e.by e.deed) es

-- How many messages thread t has delivered since its last action.
abbrev pub delivered_by : ℕ → List Event → ℕ
delivered_by t es = count_from t 0 es

-- Thread t of n comes to its action i after these events: since its last action it has delivered one message, to itself
-- from thread i modulo n, and that just now; or none, and no such message waits.
abbrev pub ComesTo : ℕ → List Event → ℕ → ℕ → Type 0
ComesTo n before t i =
    ((delivered_by t before ≡ 1) × (front : List Event) × (before ≡ front ++ delivered t t (i % n) ∷ []))
    ⊎ ((delivered_by t before ≡ 0) × ((space_after n before).mail t (i % n) ≡ []))

-- Each thread so comes to each of its actions that is not synchronising.
abbrev pub AreDelivered : ℕ → List Event → Type 0
AreDelivered n events =
    (before rest : List Event) (t i : ℕ) (a : Action) (r : Reply) → events ≡ before ++ did t i a r ∷ rest
    → is_synchronising a ≡ false → ComesTo n before t i

-- What thread t's strand is to the history in the events, where its source has this meaning.
pub record IsReplicaStrand (o : Opening) (t actions : ℕ) (history : List Entry) (outcome : List Reply → Outcome)
    (s : Strand) : Type 0 where
  -- its record is what its source gives on its replies
  pub conforms : Conforms (outcome (replies_of s.items)) s
  -- its entries in the history are its actions with their replies
  pub own : entries_of t history ≡ own_entries t s.items
  -- its stalls are justified
  pub justified : AreJustifiedAlone o t history (wanted (outcome (replies_of s.items)).«end») [] s.items
  -- its record has at most `actions` items
  pub short : length s.items ≤ actions
  pub «end» : OwnEnd actions (outcome (replies_of s.items)).«end» s.items s.«end»

-- The journal is sound for an opening and the meaning of each thread's source, by budget and thread.
pub record IsSoundReplica (o : Opening) (outcome : (budget thread : ℕ) → List Reply → Outcome)
    (r : ReplicaJournal) : Type 0 where
  pub threads : r.threads ≡ o.threads
  pub many : length r.strands ≡ o.threads
  pub run : IsReplicaRun o r.events
  pub formed : AreWellFormed o (history_in r.events)
  pub delivers : AreDelivered o.threads r.events
  pub strands :
      Numbered (λ t s. IsReplicaStrand o t r.actions (history_in r.events) (outcome r.budget t) s) r.strands
  pub ends : Numbered (λ t s. SharedEnd o (as_journal r) t s.«end») r.strands
