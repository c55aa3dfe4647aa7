-- What a thread's worker keeps in a part of a run, of what its seat has seen, and what a round makes of it.
use Rattle.std.specs.Prelude.{◌≡◌, ◌⊎◌, true, false, List, [], ◌∷◌, ◌++◌, length, Option, Some, None, is_some}
use Rattle.upc_values.specs.declared.action.Action.{Action}
use Rattle.upc_values.specs.declared.action.Reply.{Reply}
use Rattle.upc_values.specs.declared.record.Item.{Item}
use Rattle.upc_values.specs.declared.record.Item.TheVariants as item
use Rattle.upc_values.specs.Openings.{Opening}
use Rattle.upc_values.specs.Outcomes.{wanted}
use Rattle.upc_values.specs.Records.{is_beat}
use Rattle.upc_values.specs.Strands.{next_action}
use Rattle.stack_code.specs.layer.Codes.{Codes}
use Rattle.stack_machine.specs.declared.wish.Wish.{Wish}
use Rattle.replica_space.specs.declared.event.Event.{Event}
use Rattle.replica_space.specs.Events.{history_in}
use Rattle.turn_cell.specs.layer.Seats.{TableId, IsFree, cell_of, number_of, seen_of, opening_of}
use Rattle.upc_task.specs.declared.recorder.Recorder.{Recorder}
use Rattle.upc_task.specs.declared.worker.Pause.{Pause}
use Rattle.upc_task.specs.declared.worker.Pause.TheVariants.{Stalled}
use Rattle.upc_task.specs.layer.Sources.{Outcomes}
use Rattle.upc_task.specs.layer.Recorded.{Adds, IsSame, Paused, Waits, outcome_of}
use Rattle.upc_rounds_base.specs.layer.Ending.{HasOwnEnd, IsIdle, Rested}
use Rattle.replica_space_tasks.specs.layer.Kept.{IsKept}
use Rattle.replica_space_parts.specs.declared.part.Part.{Part}
use Rattle.replica_space_parts.specs.declared.seated.Seated.{Seated}

-- A worker of the program p with these outcomes, at a free seat of the cell z, whose part began with x: what it keeps
-- holds over the events before the part and those of it that its seat has seen.
pub record IsSeated (z : TableId) (x : Part) (p : Codes) (f : Outcomes) (k : Seated) : Type 0 where
  pub whole : length x.run.1 ≡ x.before
  pub free : IsFree (λ (e : Event). e.by) k.seat
  pub cell : cell_of k.seat ≡ z
  pub opened : opening_of k.seat ≡ Some x
  pub number : number_of k.seat ≡ k.worker.recorder.thread
  pub kept : IsKept x.run.0 p f (x.run.1 ++ seen_of k.seat) k.worker

module _ {B : Type 0} where
  -- What the thread's source wants next.
  abbrev pub want_of : Outcomes → Recorder B → Option Action
  want_of f k = wanted (outcome_of f k).«end»

  -- Each Stall of the one record is a Stall of the other, with the same next action.
  abbrev pub KeepsStalls : Outcomes → Recorder B → Recorder B → Type 0
  KeepsStalls f k m =
      (ahead behind : List Item) (a : Action) → k.items.items ≡ ahead ++ item.Stall ∷ behind
      → next_action (want_of f k) behind ≡ Some a
      → (rest : List Item) × (m.items.items ≡ ahead ++ item.Stall ∷ rest) × (next_action (want_of f m) rest ≡ Some a)

-- What a step that ended with this pause makes of a worker at its seat.
pub record Stepped (z : TableId) (x : Part) (c : Codes) (p : Pause) (k m : Seated) : Type 0 where
  pub kept : (f : Outcomes) → IsSeated z x c f k → IsSeated z x c f m
  pub same : IsSame k.worker.recorder m.worker.recorder
  pub pause : Paused p m.worker.recorder
  pub idle : IsIdle m.worker.recorder
  pub wish : Option Wish
  pub adds : Adds p wish k.worker.recorder.items.items m.worker.recorder.items.items
  pub waits : Waits p x.run.0 (history_in (x.run.1 ++ seen_of m.seat)) m.worker.recorder
  pub stays : (f : Outcomes) → IsSeated z x c f k → KeepsStalls f k.worker.recorder m.worker.recorder

-- The items are actions other than Beats.
abbrev pub AreGoing : List Item → Type 0
AreGoing [] = Unit {0}
AreGoing (item.Did a r ∷ items) = (is_beat a ≡ false) × AreGoing items
AreGoing (item.Stall ∷ items) = ⊥

module _ {B : Type 0} where
  -- A Beat is what the record gained last, after these items.
  abbrev pub BeatsAfter : List Item → Recorder B → Recorder B → Type 0
  BeatsAfter more k m =
      (a : Action) × (r : Reply) × (is_beat a ≡ true) × (m.items.items ≡ k.items.items ++ (more ++ item.Did a r ∷ []))

  -- The thread has come to its end after these items.
  abbrev pub EndsAfter : List Item → Recorder B → Recorder B → Type 0
  EndsAfter more k m = (is_some m.«end» ≡ true) × (m.items.items ≡ k.items.items ++ more)

  -- After these items the thread stands at a Stall, new or not, before an action that has no lawful reply after the
  -- events.
  abbrev pub StallsAfter : Opening → List Event → List Item → Recorder B → Recorder B → Type 0
  StallsAfter o events more k m =
      (m.«end» ≡ None) × Waits Stalled o (history_in events) m
      × ((m.items.items ≡ k.items.items ++ more) ⊎ (m.items.items ≡ k.items.items ++ (more ++ item.Stall ∷ [])))

-- What a thread has done in its part of a round, after which there are these events: actions other than Beats, and then
-- it has come to a Beat, to its end or to a Stall.
pub record Went {B : Type 0} (o : Opening) (events : List Event) (k m : Recorder B) : Type 0 where
  pub more : List Item
  pub going : AreGoing more
  pub rests : BeatsAfter more k m ⊎ (EndsAfter more k m ⊎ StallsAfter o events more k m)

-- A worker's part in a round.
pub record Took (z : TableId) (x : Part) (c : Codes) (k m : Seated) : Type 0 where
  pub kept : (f : Outcomes) → IsSeated z x c f k → IsSeated z x c f m
  pub same : IsSame k.worker.recorder m.worker.recorder
  pub own : HasOwnEnd m.worker.recorder
  pub idle : IsIdle m.worker.recorder
  pub rested : Rested m.worker.recorder
  pub stays : (f : Outcomes) → IsSeated z x c f k → KeepsStalls f k.worker.recorder m.worker.recorder
  pub went : Went x.run.0 (x.run.1 ++ seen_of m.seat) k.worker.recorder m.worker.recorder

-- A thread's part in a round, if it has not failed: it took its part, or had its end already.
pub record Did (z : TableId) (x : Part) (c : Codes) (k m : Seated) : Type 0 where
  pub did : m.failed ≡ false
      → ((k.worker.recorder.«end» ≡ None) × Took z x c k m)
      ⊎ ((is_some k.worker.recorder.«end» ≡ true) × (m ≡ k))
