-- How a machine goes on inside a call of the library.
use Rattle.std.specs.Prelude.{ℕ, ◌≡◌, Bool, true, false, List, [], Option, Some, None, Result, Ok, Err}
use Rattle.upc_text.specs.declared.place.Place.{Place}
use Rattle.upc_values.specs.declared.action.Reply.{Reply}
use Rattle.upc_values.specs.Scalars.{zero}
use Rattle.upc_values.specs.Expansion.{Expansion, after_reply}
use Rattle.upc_values.specs.LibraryCalls.{gives_zero}
use Rattle.stack_code.specs.layer.Codes.{Codes}
use Rattle.upc_values.specs.declared.refused.Refused.{Refused}
use Rattle.upc_values.specs.declared.refused.Refused.TheVariants as refused
use Rattle.upc_values.specs.declared.refused.Refused.TheVariants.{Error}
use Rattle.stack_machine.specs.declared.wish.Stop.TheVariants.{Fault}
use Rattle.stack_machine.specs.declared.wish.Halt.{Halt}
use Rattle.stack_machine.specs.declared.wish.Halt.TheVariants.{Memory, Asks, Stops}
use Rattle.stack_machine.specs.declared.progress.Progress.{Progress}
use Rattle.stack_machine.specs.declared.calls.Task.{Task}
use Rattle.stack_machine.specs.declared.open_calls.OpenCall.{OpenCall}
use Rattle.stack_machine.specs.code.Calls.{on_its_way}
use Rattle.stack_machine.specs.code.Bodies.{Body}
use Rattle.stack_machine.specs.code.Standing.{Stands}
use Rattle.stack_machine.specs.code.Inside.{OnItsWay, StandsInside, StandsAt, Awaited, wanted_in, with_value}
use Rattle.stack_machine.specs.code.Tasks.{task_seen}
use Rattle.stack_machine.specs.layer.Machine.{listed, told_by, HasStopped}

-- The body with the private objects, the ticks and the notify of a progress.
abbrev pub body_with : Body → Progress → Body
body_with b p = record b { store = p.store; ticks = p.ticks; notified = p.notified }

-- So a call halts that is refused so, at a place and so many ticks.
abbrev pub IsRefusal : Refused → Place → (ticks : ℕ) → Halt → Type 0
IsRefusal (Error code) at n halt = halt ≡ Stops (Fault code at) n
IsRefusal refused.Memory at n halt = halt ≡ Memory

-- This holds where the thread has not ended and memory was not wanting.
abbrev pub IfGoing : {A : Type 0} → Result A Halt → Type 0 → Type 0
IfGoing (Ok a) P = P
IfGoing (Err (Asks a n)) P = P
IfGoing (Err e) P = Unit {0}

module _ (codes : Codes) (thread budget : ℕ) (given : List Reply) where
  module _ (at : Place) where
    -- The thread is inside a call of which this is left.
    abbrev pub IsInside : Expansion (Unit {0}) → Body → Progress → Type 0
    IsInside x b p = StandsInside codes thread budget given (listed p.reply) at (gives_zero x) (body_with b p)

    -- The call goes no further: an action is wanted, at so many ticks, or the thread ends. Nothing is said of want of
    -- memory.
    abbrev pub IsHalted : Expansion (Unit {0}) → Body → Halt → Progress → Type 0
    IsHalted x b Memory p = Unit {0}
    IsHalted x b (Asks a n) p = IsInside x b p × (p.reply ≡ None) × (wanted_in (gives_zero x) ≡ Some a) × (p.ticks ≡ n)
    IsHalted x b (Stops s n) p = HasStopped codes thread budget given (told_by s) n

    -- The call is over, and the next instruction follows.
    abbrev pub IsOver : Body → Progress → Type 0
    IsOver b p = Stands codes thread budget given (listed p.reply) (with_value zero (body_with b p))

    -- What the call asked for is answered, or it goes no further.
    abbrev pub IsAnswered : Expansion (Unit {0}) → Body → Result Reply Halt → Progress → Type 0
    IsAnswered x b (Ok r) p = IsInside (after_reply x r) b p
    IsAnswered x b (Err e) p = IsHalted x b e p

    -- So it is, if the call asked for anything; if not it is over.
    abbrev pub IsAnsweredOrOver : Expansion (Unit {0}) → Body → Result (Option Reply) Halt → Progress → Type 0
    IsAnsweredOrOver x b (Ok (Some r)) p = IsInside (after_reply x r) b p
    IsAnsweredOrOver x b (Ok None) p = IsOver b p
    IsAnsweredOrOver x b (Err e) p = IsHalted x b e p

    -- The call is over, or this is left of it, or it goes no further.
    abbrev pub HasGoneOn : Expansion (Unit {0}) → Body → Result Bool Halt → Progress → Type 0
    HasGoneOn x b (Ok true) p = IsOver b p
    HasGoneOn x b (Ok false) p = IsInside x b p
    HasGoneOn x b (Err e) p = IsHalted x b e p

    -- The call is over, or it goes no further.
    abbrev pub IsWalked : Expansion (Unit {0}) → Body → Result (Unit {0}) Halt → Progress → Type 0
    IsWalked x b (Ok u) p = IsOver b p
    IsWalked x b (Err e) p = IsHalted x b e p

  -- The task has halted, in the call that is on its way if one is: at an action that it wants, or at the end of the
  -- thread. Nothing is said of want of memory.
  abbrev pub HasHalted : Halt → Option OnItsWay → Task → Type 0
  HasHalted Memory c t = Unit {0}
  HasHalted (Asks a n) c t =
      StandsAt codes thread budget given [] c (task_seen t) × Awaited codes thread budget c (task_seen t) a n
  HasHalted (Stops s n) c t = HasStopped codes thread budget given (told_by s) n

  -- The task goes on between two instructions, or it has halted.
  abbrev pub HasCome : Result (Unit {0}) Halt → Option OnItsWay → Task → Type 0
  HasCome (Ok u) c t = Stands codes thread budget given (listed t.progress.reply) (task_seen t)
  HasCome (Err e) c t = HasHalted e c t

  -- The task has come into the call, or it has halted.
  abbrev pub HasEntered : Result OpenCall Halt → Task → Type 0
  HasEntered (Ok c) t = StandsAt codes thread budget given (listed t.progress.reply) (Some (on_its_way c)) (task_seen t)
  HasEntered (Err e) t = HasHalted e None t
