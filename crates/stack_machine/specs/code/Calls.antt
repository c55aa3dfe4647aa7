-- Calls of the library on their way.
use Rattle.std.specs.Prelude.{ℕ, ◌≡◌, ◌+◌, ◌<◌, ◌^◌, Bool, false, not, ◌&&◌, ◌||◌, ◌==◌, List}
use Rattle.std.specs.Prelude.{Option, Some, None, option_map, is_some, Result, Err}
use Rattle.block_layout.specs.declared.kind.Kind.{Kind}
use Rattle.block_layout.specs.declared.kind.Shape.{Shape}
use Rattle.upc_text.specs.declared.place.Place.{Place}
use Rattle.upc_values.specs.declared.scalar.Scalar.{Scalar}
use Rattle.upc_values.specs.declared.action.Reply.{Reply}
use Rattle.upc_values.specs.declared.action.Reply.TheVariants as reply
use Rattle.upc_values.specs.Formed.{is_read}
use Rattle.upc_values.specs.Expansion.{Expansion, Gives, Fails, Reads, Asks, Loads, Stores}
use Rattle.thread_steps.specs.layer.Ranges.{IsHeldScalar}
use Rattle.upc_library.specs.layer.Walks.{rest, replies_left}
use Rattle.upc_values.specs.declared.library.LibraryCall.{LibraryCall}
use Rattle.private_store.specs.Live.{controls}
use Rattle.thread_values.specs.layer.Copies.{copies}
use Rattle.thread_values.specs.layer.Collectives.{collective_number}
use Rattle.collectives.specs.layer.Walks as together
use Rattle.stack_machine.specs.declared.open_calls.Walk.{Walk}
use Rattle.stack_machine.specs.declared.open_calls.Walk.TheVariants as walk
use Rattle.stack_machine.specs.declared.open_calls.OpenCall.{OpenCall}
use Rattle.stack_machine.specs.declared.memory_calls.NextCall.{NextCall}
use Rattle.stack_machine.specs.declared.wish.Halt.{Halt}
use Rattle.stack_machine.specs.declared.wish.Halt.TheVariants as halt
use Rattle.stack_machine.specs.declared.wish.Stop.TheVariants.{Fault}
use Rattle.stack_code.specs.declared.instruction.ThreadWork.TheVariants.{Library}
use Rattle.stack_code.specs.declared.instruction.Operation.TheVariants.{Thread as Among}
use Rattle.stack_code.specs.declared.instruction.Instr.{Instr}
use Rattle.stack_machine.specs.code.Bodies.{Body}
use Rattle.stack_machine.specs.code.Inside.{OnItsWay}
use Rattle.stack_machine.specs.code.Kept.{IsHolding}
use Rattle.stack_machine.specs.declared.progress.Progress.{Progress}

-- What is left of a call, by the shapes of the program.
abbrev pub left_of : List Shape → Walk → Expansion (Unit {0})
left_of shapes (walk.Copying c) = rest c
left_of shapes (walk.Collective c) = together.rest shapes c

-- How many replies are there: one, or none.
abbrev pub replies_there : Option Reply → ℕ
replies_there None = 0
replies_there (Some r) = 1

-- How many turns the call takes at most before it asks for an action that no reply is there for: in a memory call the
-- replies that it still takes, and in a collective call, which asks for actions alone, the reply that is there.
abbrev pub turns_left : Walk → Option Reply → ℕ
turns_left (walk.Copying c) r = replies_left c
turns_left (walk.Collective c) r = replies_there r

-- The answer to what the call asked for leaves fewer turns: something was left to do, and in a collective call the
-- reply that was there is taken.
abbrev pub IsNearer : Walk → (before after : Option Reply) → Type 0
IsNearer (walk.Copying c) before after = 0 < replies_left c
IsNearer (walk.Collective c) before after = replies_there after < replies_there before

-- The call as contracts see it.
abbrev pub on_its_way : OpenCall → OnItsWay
on_its_way c = record { place = c.place; left = λ shapes. left_of shapes c.walk }

-- The call that is on its way, if one is.
abbrev pub the_call : Option OpenCall → Option OnItsWay
the_call o = option_map on_its_way o

-- There is something left to do.
abbrev pub IsUnfinished : Expansion (Unit {0}) → Type 0
IsUnfinished (Gives v) = ⊥
IsUnfinished x = Unit {0}

-- The call asks for actions alone.
abbrev pub ActsOnly : {A : Type 0} → Expansion A → Type 0
ActsOnly (Gives v) = Unit {0}
ActsOnly (Fails code) = Unit {0}
ActsOnly (Reads l k go) = (v : Scalar) → ActsOnly (go v)
ActsOnly (Asks a go) = (r : Reply) → ActsOnly (go r)
ActsOnly (Loads p k go) = ⊥
ActsOnly (Stores p k v go) = ⊥

-- A reply gives a value that a read of a cell of this kind may give.
abbrev pub fits_read : ℕ → List Shape → Option Kind → Reply → Bool
fits_read threads shapes kind (reply.Value v) = is_read threads shapes kind v
fits_read threads shapes kind r = false

module _ (threads : ℕ) (shapes : List Shape) where
  -- Each value that the call writes to a private cell is in range, where those that come are.
  abbrev pub WritesHeld : {A : Type 0} → Expansion A → Type 0
  WritesHeld (Gives v) = Unit {0}
  WritesHeld (Fails code) = Unit {0}
  WritesHeld (Reads l k go) = (v : Scalar) → IsHeldScalar threads shapes v → WritesHeld (go v)
  WritesHeld (Asks a go) = (r : Reply) → WritesHeld (go r)
  WritesHeld (Loads p k go) = (v : Scalar) → IsHeldScalar threads shapes v → WritesHeld (go v)
  WritesHeld (Stores p k v go) = IsHeldScalar threads shapes v × WritesHeld go

  -- The call may go on: what it writes is in range, and another instruction has a place behind it.
  pub record IsGoingOn (x : Expansion (Unit {0})) (b : Body) : Type 0 where
    pub held : WritesHeld x
    pub room : b.at.place + 1 < 2 ^ 64

  -- So may the call that is on its way, if one is.
  abbrev pub MayGoOn : Option OnItsWay → Body → Type 0
  MayGoOn None b = Unit {0}
  MayGoOn (Some c) b = IsGoingOn (c.left shapes) b

-- The call asks for many actions: a memory call, and a collective call from 5 to 12 (UPC 7.2.5, 7.3).
abbrev pub walks : LibraryCall → Bool
walks c = copies c || is_some (collective_number c)

-- The thread stands neither in a controlling body nor between a notify and its wait (UPC 6.6.1, 6.6.2).
abbrev pub may_meet : Progress → Bool
may_meet p = (controls p.store == 0) && not p.notified

-- Such a call may begin: a memory call always, and a collective call where all threads may meet.
abbrev pub may_begin : LibraryCall → Progress → Bool
may_begin c p = copies c || may_meet p

-- This holds unless memory was wanting.
abbrev pub UnlessWant : {A : Type 0} → Result A Halt → Type 0 → Type 0
UnlessWant (Err halt.Memory) P = Unit {0}
UnlessWant r P = P

-- The instruction of a call with so many arguments.
abbrev pub call_instr : NextCall → Instr
call_instr c = record { place = c.place; does = Among (Library c.call c.shape c.arguments) }

-- The call of the library fails so: by a run error at a place, at so many ticks. Nothing is said of want of memory.
abbrev pub FailsSo : Halt → Expansion Scalar → Place → (ticks : ℕ) → Type 0
FailsSo halt.Memory x at n = Unit {0}
FailsSo (halt.Asks a m) x at n = ⊥
FailsSo (halt.Stops (Fault code there) m) x at n = (x ≡ Fails code) × (there ≡ at) × (m ≡ n)
FailsSo (halt.Stops s m) x at n = ⊥

-- A call of the library has given its value: the next instruction follows, and the values are in range.
pub record HasLeft (threads : ℕ) (shapes : List Shape) (b d : Body) : Type 0 where
  pub held : IsHolding threads shapes d
  pub function : d.at.function ≡ b.at.function
  pub place : d.at.place ≡ b.at.place + 1
  pub calls : d.calls ≡ b.calls
  pub ticks : d.ticks ≡ b.ticks
