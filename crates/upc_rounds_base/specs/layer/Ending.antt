-- How threads come to their ends, whatever memory they act on.
use Rattle.std.specs.Prelude.{◌≡◌, Bool, true, false, not, List, Option, Some, None, is_some}
use Rattle.upc_values.specs.declared.action.Action.{Action}
use Rattle.upc_values.specs.declared.record.End.{End}
use Rattle.upc_values.specs.declared.record.End.TheVariants.{Halted, Deadlocked}
use Rattle.upc_values.specs.declared.journal.Entry.{Entry}
use Rattle.upc_values.specs.Records.{is_stall, last_item}
use Rattle.upc_values.specs.Openings.{Opening}
use Rattle.upc_values.specs.History.{reply}
use Rattle.upc_values.specs.Ends.{stops}
use Rattle.stack_machine.specs.declared.wish.Wish.{Wish}
use Rattle.stack_machine.specs.declared.wish.Wish.TheVariants.{Act}
use Rattle.upc_task.specs.declared.recorder.Recorder.{Recorder}
use Rattle.upc_task.specs.Ends.{is_given}
use Rattle.upc_task.specs.layer.Recorded.{IsPausing}

-- The end of a thread, which is Halted where it had none.
abbrev pub halted_end : Option End → Option End
halted_end None = Some Halted
halted_end (Some e) = Some e

-- The end of a thread, which is Deadlocked where it had none and wants an action.
abbrev pub locked_end : Option Wish → Option End → Option End
locked_end w (Some e) = Some e
locked_end (Some (Act a)) None = Some (Deadlocked a)
locked_end w None = None

-- The thread wants an action that is not legal after the entries, and stands at a Stall.
pub record Wanting {B : Type 0} (o : Opening) (seen : List Entry) (k : Recorder B) : Type 0 where
  pub action : Action
  pub wish_is : k.wish ≡ Some (Act action)
  pub stalled : is_stall (last_item k.items.items) ≡ true
  pub none : reply o seen k.thread action ≡ None

module _ {B : Type 0} where
  -- The thread was not given its end.
  abbrev pub HasOwnEnd : Recorder B → Type 0
  HasOwnEnd k = (e : End) → k.«end» ≡ Some e → is_given e ≡ false

  -- A thread without an end has a wish only where it stands at a Stall.
  abbrev pub IsIdle : Recorder B → Type 0
  IsIdle k = k.«end» ≡ None → is_some k.wish ≡ true → is_stall (last_item k.items.items) ≡ true

  -- The thread has no end.
  abbrev pub is_open : Recorder B → Bool
  is_open k = not (is_some k.«end»)

  -- The thread has its end, or stands at a Beat or a Stall.
  abbrev pub Rested : Recorder B → Type 0
  Rested k = k.«end» ≡ None → IsPausing k

  -- The end of the thread ends the run.
  abbrev pub Stops : Recorder B → Type 0
  Stops k = (e : End) × (k.«end» ≡ Some e) × (stops e ≡ true)

  -- The thread has no end that ends the run.
  abbrev pub IsQuiet : Recorder B → Type 0
  IsQuiet k = (e : End) → k.«end» ≡ Some e → stops e ≡ false

  -- The thread with the end Halted, where it had none.
  abbrev pub halted : Recorder B → Recorder B
  halted k = record k { «end» = halted_end k.«end» }

  -- The thread with the end Deadlocked, where it had none and wants an action.
  abbrev pub locked : Recorder B → Recorder B
  locked k = record k { «end» = locked_end k.wish k.«end» }

  -- The thread may be given the end Deadlocked.
  abbrev pub CanLock : Recorder B → Type 0
  CanLock k = (a : Action) × (k.wish ≡ Some (Act a)) × (is_stall (last_item k.items.items) ≡ true)
