-- When a run with a copy of the shared memory for each thread goes by rounds: its events fall into parts, and between
-- two parts every thread rests.
use Rattle.std.specs.Prelude.{ℕ, ◌≡◌, ◌⊎◌, true, false, List, [], ◌∷◌, ◌++◌, Option, None, Some}
use Rattle.upc_values.specs.declared.action.Action.{Action}
use Rattle.upc_values.specs.declared.action.Reply.{Reply}
use Rattle.upc_values.specs.declared.record.Item.{Item}
use Rattle.upc_values.specs.declared.record.Item.TheVariants.{Stall}
use Rattle.upc_values.specs.declared.record.End.{End}
use Rattle.upc_values.specs.declared.journal.Entry.{Entry}
use Rattle.upc_values.specs.Lists.{Numbered}
use Rattle.upc_values.specs.Records.{replies_of}
use Rattle.upc_values.specs.Outcomes.{Outcome, wanted}
use Rattle.upc_values.specs.Drain.{entries_of}
use Rattle.upc_values.specs.Openings.{Opening}
use Rattle.upc_values.specs.History.{reply}
use Rattle.upc_values.specs.Strands.{next_action}
use Rattle.upc_task.specs.Ends.{is_given}
use Rattle.upc_rounds_teams.specs.Rounds.{BeatsLast, ends_with_beat}
use Rattle.replica_space.specs.declared.event.Event.{Event}
use Rattle.replica_space.specs.declared.event.ReplicaJournal.{ReplicaJournal}
use Rattle.replica_space.specs.Events.{history_in}
use Rattle.replica_space.specs.ReplicaSound.{own_entries}

-- The events of all parts, in order.
abbrev pub events_in : List (List Event) → List Event
events_in [] = []
events_in (p ∷ ps) = p ++ events_in ps

-- The actions of thread t among the events, with their replies, in order.
abbrev pub actions_by : ℕ → List Event → List Entry
actions_by t es = entries_of t (history_in es)

-- Thread t, with this record, whose source then wants an action or none. Events are those of all threads.
module _ (o : Opening) (t : ℕ) (items : List Item) (want : Option Action) where
  -- After a part, which follows the events before it, the thread stands at a Stall of its record: it has done no
  -- actions but those of its items before the Stall, and within the part is a moment at which it had done all these and
  -- at which its next action had no lawful reply.
  pub record StandsAlone (before part : List Event) : Type 0 where
    pub ahead : List Item
    pub behind : List Item
    pub is : items ≡ ahead ++ Stall ∷ behind
    pub done : actions_by t (before ++ part) ≡ own_entries t ahead
    pub front : List Event
    pub rest : List Event
    pub cut : part ≡ front ++ rest
    pub whole : actions_by t (before ++ front) ≡ own_entries t ahead
    pub action : Action
    pub wants : next_action want behind ≡ Some action
    pub none : reply o (history_in (before ++ front)) t action ≡ None

  -- After a part the thread rests: its last action there is a Beat; or it does no later action, and has an end of its
  -- own; or it stands at a Stall.
  abbrev pub RestsAlone : End → (before part later : List Event) → Type 0
  RestsAlone e before part later =
      (ends_with_beat (actions_by t part) ≡ true)
      ⊎ ((actions_by t later ≡ []) × (is_given e ≡ false))
      ⊎ StandsAlone before part

  -- In each of the parts, which follow the events before them, a Beat is the thread's last action, and after each part
  -- it rests.
  abbrev pub RestsAloneAfterEach : End → (before : List Event) → List (List Event) → Type 0
  RestsAloneAfterEach e before [] = Unit {0}
  RestsAloneAfterEach e before (p ∷ ps) =
      BeatsLast (actions_by t p) × RestsAlone e before p (events_in ps) × RestsAloneAfterEach e (before ++ p) ps

-- The run goes by rounds, for an opening and the meaning of each thread's source, by budget and thread, at its own
-- budget: the parts of its events are the rounds.
pub record GoesByReplicaRounds (o : Opening) (outcome : (budget t : ℕ) → List Reply → Outcome) (r : ReplicaJournal)
    : Type 0 where
  pub parts : List (List Event)
  pub whole : events_in parts ≡ r.events
  pub rests :
      Numbered
      (λ t s. RestsAloneAfterEach o t s.items (wanted (outcome r.budget t (replies_of s.items)).«end») s.«end» [] parts)
      r.strands
