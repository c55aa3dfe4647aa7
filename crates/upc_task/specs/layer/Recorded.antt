-- What is kept of a thread's record, replies, wish and end, whatever memory it acts on.
use Rattle.std.specs.Prelude.{ℕ, ◌≡◌, ◌*◌, ◌<◌, ◌≤◌, ◌^◌, Bool, true, false, cond, List, [], ◌∷◌, ◌++◌, length}
use Rattle.std.specs.Prelude.{Option, Some, None, is_some, ◌⊎◌}
use Rattle.upc_values.specs.declared.action.Action.{Action}
use Rattle.upc_values.specs.declared.action.Reply.{Reply}
use Rattle.upc_values.specs.declared.record.Item.{Item}
use Rattle.upc_values.specs.declared.record.Item.TheVariants.{Did, Stall}
use Rattle.upc_values.specs.declared.record.End.{End}
use Rattle.upc_values.specs.declared.record.End.TheVariants as ends
use Rattle.upc_values.specs.declared.journal.Entry.{Entry}
use Rattle.upc_values.specs.declared.journal.Strand.{Strand}
use Rattle.upc_values.specs.Openings.{Opening}
use Rattle.upc_values.specs.History.{reply}
use Rattle.upc_values.specs.Outcomes.{Outcome, wanted}
use Rattle.upc_values.specs.Records.{actions_of, replies_of, last_item, is_stall, is_beat, is_beat_item, beats}
use Rattle.upc_values.specs.Strands.{StallsStand, strand_ticks}
use Rattle.upc_values.specs.Ends.{OwnEnd}
use Rattle.stack_code.specs.layer.Codes.{Codes}
use Rattle.stack_machine.specs.layer.Machine.{Seen}
use Rattle.stack_machine.specs.declared.wish.Wish.{Wish}
use Rattle.stack_machine.specs.declared.wish.Wish.TheVariants.{Act, Ended, Exit, Fault, Budget}
use Rattle.stack_machine.specs.layer.Machine.{Answered, HasAsked, listed, told_of}
use Rattle.upc_task.specs.declared.limits.Limits.{Limits}
use Rattle.upc_task.specs.declared.recorder.Recorder.{Recorder}
use Rattle.upc_task.specs.declared.worker.Pause.{Pause}
use Rattle.upc_task.specs.declared.worker.Pause.TheVariants as pauses
use Rattle.upc_task.specs.Ends.{is_given}
use Rattle.upc_task.specs.layer.Sources.{Outcomes, IsSource, Follows}

-- What a run may be limited to: 1 to 32 threads, up to 10^12 ticks, and 8,388,608 items over all threads.
pub record AreLimits (l : Limits) : Type 0 where
  pub some : 1 ≤ l.threads
  pub threads : l.threads ≤ 32
  pub ticks : 1 ≤ l.budget
  pub budget : l.budget ≤ 1000000000000
  pub items : 1 ≤ l.actions
  pub all : l.threads * l.actions ≤ 8388608

-- What the machine, and the reply that it has not taken yet, are to the record of a thread with these outcomes.
pub record Goes (p : Codes) (outcome : List Reply → Outcome) (t b : ℕ) (machine : Seen) (answer : Option Reply)
    (wish : Option Wish) (items : List Item) : Type 0 where
  pub given : List Reply
  pub follows : Follows p t b outcome given machine
  pub answered : Answered outcome given answer
  pub replies : given ++ listed answer ≡ replies_of items
  pub wished : (w : Wish) → wish ≡ Some w
      → (answer ≡ None) × (told_of w ≡ (outcome (replies_of items)).«end»)
  pub idle : wish ≡ None → is_stall (last_item items) ≡ false
  pub beats : is_beat_item (last_item items) ≡ true → wish ≡ None
      → (outcome given).ticks ≡ 1024 * beats (actions_of items)
  pub asked : ((items ≡ []) × (wish ≡ None)) ⊎ HasAsked machine

-- A thread has its end: one that the outcome allows, and the ticks are those of a strand.
pub record HasEnd (actions ticks : ℕ) (machine : Seen) (outcome : Outcome) (items : List Item) (e : End)
    : Type 0 where
  pub asked : HasAsked machine
  pub own : OwnEnd actions outcome.«end» items e
  pub counted : ticks ≡ strand_ticks e items outcome.ticks

module _ {B : Type 0} where
  -- The outcome of the thread's source on the replies of its record, where these are the threads' outcomes.
  abbrev pub outcome_of : Outcomes → Recorder B → Outcome
  outcome_of f k = f k.thread (replies_of k.items.items)

-- What is kept of a recorder of the program p between two calls, where these are the threads' outcomes: its record is
-- what its source gives, and may stand in a strand; its machine has had the replies; and its end is one that it may
-- have.
pub record IsRecorded {B : Type 0} (o : Opening) (p : Codes) (f : Outcomes) (k : Recorder B) : Type 0 where
  pub source : IsSource o k.limits.budget (f k.thread)
  pub within : k.thread < o.threads
  pub small : k.limits.actions < 2 ^ 32
  pub few : k.next ≤ length k.items.items
  pub did : (outcome_of f k).actions ≡ actions_of k.items.items
  pub stalls : StallsStand (wanted (outcome_of f k).«end») k.items.items
  pub short : length k.items.items ≤ k.limits.actions
  pub goes : Goes p (f k.thread) k.thread k.limits.budget k.machine k.answer k.wish k.items.items
  pub ended : (e : End) → k.«end» ≡ Some e
      → HasEnd k.limits.actions (f k.thread goes.given).ticks k.machine (outcome_of f k) k.items.items e

-- Two recorders are of one thread and have the same limits.
pub record IsSame {B : Type 0} (k m : Recorder B) : Type 0 where
  pub thread : m.thread ≡ k.thread
  pub limits : m.limits ≡ k.limits

module _ {B : Type 0} where
  -- In the program p, what is kept of the one is kept of the other.
  abbrev pub StaysRecorded : Codes → Recorder B → Recorder B → Type 0
  StaysRecorded p k m = (f : Outcomes) (o : Opening) → IsRecorded o p f k → IsRecorded o p f m

  -- The thread stands at a Beat whose answer its machine has not taken, or at a Stall.
  abbrev pub IsPausing : Recorder B → Type 0
  IsPausing k =
      ((is_beat_item (last_item k.items.items) ≡ true) × (k.wish ≡ None))
      ⊎ ((is_stall (last_item k.items.items) ≡ true) × (is_some k.wish ≡ true))

  -- How a thread stands after a step with this pause.
  abbrev pub Paused : Pause → Recorder B → Type 0
  Paused pauses.Going k = k.«end» ≡ None
  Paused pauses.Beat k = (k.«end» ≡ None) × IsPausing k
  Paused pauses.Stalled k = (k.«end» ≡ None) × IsPausing k
  Paused pauses.Finished k = (e : End) × (k.«end» ≡ Some e) × (is_given e ≡ false)

  -- The thread may come to this end by itself.
  abbrev pub MayFinish : Recorder B → End → Type 0
  MayFinish k e = (is_given e ≡ false)
      × ((o : Opening) (p : Codes) (f : Outcomes) → IsRecorded o p f k
      → OwnEnd k.limits.actions (outcome_of f k).«end» k.items.items e)

  -- The thread may be given this end.
  abbrev pub CanEnd : Recorder B → End → Type 0
  CanEnd k ends.Halted = IsPausing k
  CanEnd k (ends.Deadlocked a) = (k.wish ≡ Some (Act a)) × (is_stall (last_item k.items.items) ≡ true)
  CanEnd k e = ⊥

  -- A thread that stalled wants what is not legal after the entries.
  abbrev pub Waits : Pause → Opening → List Entry → Recorder B → Type 0
  Waits pauses.Stalled o seen k =
      (a : Action) × (k.wish ≡ Some (Act a)) × (is_stall (last_item k.items.items) ≡ true)
      × (reply o seen k.thread a ≡ None)
  Waits p o seen k = Unit {0}

-- The action that is wished, none where the wish is none.
abbrev pub wanted_of : Option Wish → Option Action
wanted_of (Some (Act a)) = Some a
wanted_of w = None

-- The end that a wish is, or that comes where the record is full.
abbrev pub own_end : Wish → Bool → Option End
own_end (Act a) full = cond full (Some ends.ActionsFull) None
own_end (Ended v) full = Some (ends.Ended v)
own_end (Exit v) full = Some (ends.Exit v)
own_end (Fault c p) full = Some (ends.Fault c p)
own_end Budget full = Some ends.Budget

-- What a record gained in a step with this pause, where the thread had this wish.
abbrev pub Adds : Pause → Option Wish → List Item → List Item → Type 0
Adds pauses.Going wish xs ys =
    (a : Action) × (r : Reply) × (is_beat a ≡ false) × (wish ≡ Some (Act a)) × (ys ≡ xs ++ Did a r ∷ [])
Adds pauses.Beat wish xs ys =
    (a : Action) × (r : Reply) × (is_beat a ≡ true) × (wish ≡ Some (Act a)) × (ys ≡ xs ++ Did a r ∷ [])
Adds pauses.Stalled wish xs ys = (ys ≡ xs) ⊎ (ys ≡ xs ++ Stall ∷ [])
Adds pauses.Finished wish xs ys = ys ≡ xs

-- The record ends with a Stall: the last item was one, or one is added.
abbrev pub Stalls : List Item → List Item → Type 0
Stalls xs ys =
    ((is_stall (last_item xs) ≡ true) × (ys ≡ xs))
    ⊎ ((is_stall (last_item xs) ≡ false) × (ys ≡ xs ++ Stall ∷ []))

-- What a step with this pause leaves of the wish: none after an action, else the same.
abbrev pub Leaves : Pause → Option Wish → Option Wish → Type 0
Leaves pauses.Going wish left = left ≡ None
Leaves pauses.Beat wish left = left ≡ None
Leaves p wish left = left ≡ wish

-- The end of a thread; one that has none yet counts as Halted.
abbrev pub end_or : Option End → End
end_or (Some e) = e
end_or None = ends.Halted

module _ {B : Type 0} where
  -- The strand of a thread that has its end.
  abbrev pub strand_of : Outcomes → Recorder B → Strand
  strand_of f k = record {
    items = k.items.items;
    ticks = strand_ticks (end_or k.«end») k.items.items (outcome_of f k).ticks;
    «end» = end_or k.«end»;
  }
