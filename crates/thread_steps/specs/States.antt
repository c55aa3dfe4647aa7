-- What a thread does, step by step: each step leads from a state to a value with the state after it, or ends the
-- thread.
use Rattle.std.specs.Prelude.{ℕ, Bool, true, false, List, Result, Ok, Err}
use Rattle.upc_text.specs.declared.place.Place.{Place}
use Rattle.block_layout.specs.declared.kind.Shape.{Shape}
use Rattle.upc_values.specs.declared.action.Action.{Action}
use Rattle.upc_values.specs.declared.action.Reply.{Reply}
use Rattle.upc_values.specs.declared.record.ToldEnd.{ToldEnd}
use Rattle.upc_values.specs.declared.record.ToldEnd.TheVariants.{Fault}
use Rattle.private_store.specs.Live.{Live}

-- A thread that runs: its number, how many threads there are, its budget of ticks, and the shapes of the elements of
-- shared objects, by number.
pub record Thread : Type 0 where
  pub number : ℕ
  pub threads : ℕ
  pub budget : ℕ
  pub shapes : List Shape

-- The state of a thread: its private objects, its ticks, whether it has notified and not yet waited (UPC 6.6.1), its
-- actions so far, and the replies that it will be given.
pub record State : Type 0 where
  pub store : Live
  pub ticks : ℕ
  pub notified : Bool
  pub actions : List Action
  pub replies : List Reply

-- The result of a step: a value and the state after it, or the end of the thread; or that a definition was given too
-- few turns for its loops, which is the result of no whole program.
pub data Res (A : Type 0) : Type 0 where
  Val : (value : A) (after : State) → Res A
  Over : (told : ToldEnd) (after : State) → Res A
  Unfinished : Res A

-- The result of a step and of the next one, which is done where the first has given a value.
abbrev pub bind : {A B : Type 0} → Res A → (A → State → Res B) → Res B
bind (Val a σ) go = go a σ
bind (Over told σ) go = Over told σ
bind Unfinished go = Unfinished

-- What is done from a state on, with its result; in `x ← m` the value of m is called x, and what stands below is done
-- then.
abbrev pub Doing : Type 0 → Type 0
Doing A = State → Res A

-- What m does, and then what f does with its value.
infixl 10 ◌>>=◌
abbrev pub ◌>>=◌ : {A B : Type 0} → Doing A → (A → Doing B) → Doing B
m >>= f = λ σ. bind (m σ) f

-- What m does, and then what n does, whatever value m has given.
infixl 10 ◌>>◌
abbrev pub ◌>>◌ : {A B : Type 0} → Doing A → Doing B → Doing B
m >> n = λ σ. bind (m σ) (λ _. n)

-- A value is given, and nothing is done.
abbrev pub give : {A : Type 0} → A → Doing A
give a = λ σ. Val a σ

-- Nothing is done.
abbrev pub skip : Doing (Unit {0})
skip = give tt

-- A value is read off the state, which stays as it is.
abbrev pub know : {A : Type 0} → (State → A) → Doing A
know f = λ σ. Val (f σ) σ

-- The state becomes what f makes of it.
abbrev pub change : (State → State) → Doing (Unit {0})
change f = λ σ. Val tt (f σ)

-- What is done is the first where a test holds, else the second.
abbrev pub choose : {A : Type 0} → Bool → Doing A → Doing A → Doing A
choose true a b = a
choose false a b = b

-- The thread ends in this way.
abbrev pub over : {A : Type 0} → ToldEnd → Doing A
over told = λ σ. Over told σ

-- The thread ends by a run error, by its code, at the place of its construct.
abbrev pub fault : {A : Type 0} → ℕ → Place → Doing A
fault code at = over (Fault code at)

-- The thread ends by a run error where the state passes a test.
abbrev pub fault_if : (State → Bool) → ℕ → Place → Doing (Unit {0})
fault_if test code at = λ σ. choose (test σ) (fault code at) skip σ

-- A value is given, or the thread ends by a run error, by its code, at the place of its construct.
abbrev pub valued : {A : Type 0} → Place → Result A ℕ → Doing A
valued at (Ok v) = give v
valued at (Err code) = fault code at
