-- Where a thread stands inside a call of the library, reply by reply.
use Rattle.std.specs.Prelude.{ℕ, ◌≡◌, ◌<◌, ◌++◌, true, false, List, [], ◌∷◌, drop, Option, Some, None}
use Rattle.std.specs.Prelude.{Ok, Err, is_some, slice_get}
use Rattle.upc_text.specs.declared.place.Place.{Place}
use Rattle.block_layout.specs.declared.place.Loc.{Loc}
use Rattle.block_layout.specs.declared.place.LocalPtr.{LocalPtr}
use Rattle.block_layout.specs.declared.kind.Kind.{Kind}
use Rattle.block_layout.specs.declared.kind.Shape.{Shape}
use Rattle.upc_values.specs.declared.scalar.Scalar.{Scalar}
use Rattle.upc_values.specs.declared.scalar.Value.{Value}
use Rattle.upc_values.specs.declared.scalar.Value.TheVariants as value
use Rattle.upc_values.specs.declared.action.Action.{Action}
use Rattle.upc_values.specs.declared.action.Action.TheVariants as act
use Rattle.upc_values.specs.declared.action.Reply.{Reply}
use Rattle.upc_values.specs.declared.record.ToldEnd.TheVariants.{Wants, Fault}
use Rattle.upc_values.specs.declared.library.LibraryCall.{LibraryCall}
use Rattle.upc_values.specs.Outcomes.{Outcome}
use Rattle.upc_values.specs.Formed.{fits}
use Rattle.upc_values.specs.LibraryCalls.{library_call, meet_number, gives_zero}
use Rattle.upc_values.specs.Expansion.{Expansion, Gives, Fails, Reads, Asks, Loads, Stores, value_in}
use Rattle.private_store.specs.Live.{Live}
use Rattle.private_store.specs.Cells.{loaded, stored}
use Rattle.thread_steps.specs.States.{Thread, bind, give}
use Rattle.thread_steps.specs.Values.{kept, scalar_of}
use Rattle.thread_steps.specs.Actions.{is_controlled}
use Rattle.thread_steps.specs.Accesses.{library_steps}
use Rattle.thread_steps.specs.Library.{is_formed}
use Rattle.thread_steps.specs.layer.Parts.{private_shapes, is_exit}
use Rattle.stack_code.specs.declared.instruction.ThreadWork.TheVariants.{Library}
use Rattle.stack_code.specs.declared.instruction.Operation.TheVariants.{Thread as Among}
use Rattle.stack_code.specs.layer.Codes.{Codes, thread_of, function_at}
use Rattle.stack_code.specs.layer.Steps.{Conf, At, conf_of, further, youngest, steps}
use Rattle.stack_code.specs.layer.Outcomes.{CodeMeans}
use Rattle.stack_machine.specs.code.Bodies.{Body, conf, state_of, Awaits, one}
use Rattle.stack_machine.specs.code.Standing.{Stands, first_body}

-- What the code comes to from inside a call: what is left of the call is done, its value goes onto the operands, and
-- the next instruction follows.
abbrev pub inside : Thread → Place → Expansion Scalar → Body → List Action → List Reply → Conf
inside τ at x b before later =
    conf_of (bind (library_steps τ at x (state_of b before later)) (λ v. give (value.Scalar v)))
    (λ v. At (further 1 b.at) b.given (v ∷ b.operands) b.calls)

-- The body behind a call that gave this value.
abbrev pub with_value : Scalar → Body → Body
with_value v b = record b { at = further 1 b.at; operands = value.Scalar v ∷ b.operands }

-- The thread has come into a call by the replies that it was given, has these left, and this is left of the call; its
-- ticks are below the budget.
pub record StandsInside (codes : Codes) (thread budget : ℕ) (given left : List Reply) (at : Place)
    (x : Expansion Scalar) (b : Body) : Type 0 where
  pub did : List Action
  pub leads :
      (before : List Action) (later : List Reply)
      → (count : ℕ)
      × (steps (thread_of codes thread budget) codes.functions count (conf (first_body codes) before (given ++ later))
      ≡ inside (thread_of codes thread budget) at x b (before ++ did) (left ++ later))
  pub in_time : b.ticks < budget

-- What is wanted next.
abbrev pub wanted_in : Expansion Scalar → Option Action
wanted_in (Reads l k go) = Some (act.Read l false)
wanted_in (Asks a go) = Some a
wanted_in x = None

-- It fails by this code: by itself, or at a private cell.
abbrev pub FailsBy : (code : ℕ) → Expansion Scalar → Body → Type 0
FailsBy code (Fails c) b = c ≡ code
FailsBy code (Loads p k go) b = loaded p k b.store ≡ Err code
FailsBy code (Stores p k v go) b = stored p k (kept k (value.Scalar v)) b.store ≡ Err code
FailsBy code x b = ⊥

-- What is known of a thread by what is left of a call, where `f` says what the code means on each list of replies.
pub record GoesInside (codes : Codes) (thread budget : ℕ) : Type 0 where
  -- A reply more is heard.
  pub hears :
      (given left more : List Reply) (at : Place) (x : Expansion Scalar) (b : Body)
      → StandsInside codes thread budget given left at x b
      → StandsInside codes thread budget (given ++ more) (left ++ more) at x b
  -- A read is answered.
  pub reads :
      (given left : List Reply) (r : Reply) (at : Place) (l : Loc) (k : Kind) (go : Scalar → Expansion Scalar)
      (b : Body)
      → StandsInside codes thread budget given (r ∷ left) at (Reads l k go) b
      → fits codes.threads codes.shapes (Some k) (act.Read l false) r ≡ true
      → StandsInside codes thread budget given left at (go (value_in r)) b
  -- Any other action is.
  pub asks :
      (given left : List Reply) (r : Reply) (at : Place) (a : Action) (go : Reply → Expansion Scalar) (b : Body)
      → StandsInside codes thread budget given (r ∷ left) at (Asks a go) b
      → fits codes.threads codes.shapes None a r ≡ true
      → StandsInside codes thread budget given left at (go r) b
  -- A private cell is read, or written.
  pub loads :
      (given left : List Reply) (at : Place) (p : LocalPtr) (k : Kind) (go : Scalar → Expansion Scalar) (b : Body)
      (v : Value) → StandsInside codes thread budget given left at (Loads p k go) b → loaded p k b.store ≡ Ok v
      → StandsInside codes thread budget given left at (go (scalar_of v)) b
  pub stores :
      (given left : List Reply) (at : Place) (p : LocalPtr) (k : Kind) (v : Scalar) (go : Expansion Scalar) (b : Body)
      (s : Live) → StandsInside codes thread budget given left at (Stores p k v go) b
      → stored p k (kept k (value.Scalar v)) b.store ≡ Ok s
      → StandsInside codes thread budget given left at go (record b { store = s })
  -- The call gives its value.
  pub gives :
      (given left : List Reply) (at : Place) (v : Scalar) (b : Body)
      → StandsInside codes thread budget given left at (Gives v) b
      → Stands codes thread budget given left (with_value v b)
  -- What it wants is what the code means to want.
  pub wants :
      (f : List Reply → Outcome) (given : List Reply) (at : Place) (x : Expansion Scalar) (b : Body) (a : Action)
      → ((replies : List Reply) → CodeMeans codes thread budget replies (f replies))
      → StandsInside codes thread budget given [] at x b → wanted_in x ≡ Some a
      → ((f given).«end» ≡ Wants a) × ((f given).ticks ≡ b.ticks)
  -- Where it fails the thread ends so, whatever replies follow.
  pub fails :
      (f : List Reply → Outcome) (given left later : List Reply) (at : Place) (x : Expansion Scalar) (code : ℕ)
      (b : Body) → ((replies : List Reply) → CodeMeans codes thread budget replies (f replies))
      → StandsInside codes thread budget given left at x b → FailsBy code x b
      → ((f (given ++ later)).«end» ≡ Fault code at) × ((f (given ++ later)).ticks ≡ b.ticks)

-- All threads may meet here, or need not.
pub record MayMeet (call : LibraryCall) (b : Body) : Type 0 where
  pub controlled : is_some (meet_number call) ≡ true → is_controlled (state_of b [] []) ≡ false
  pub notified : is_some (meet_number call) ≡ true → b.notified ≡ false

-- The body whose operands are those below the arguments.
abbrev pub without : ℕ → Body → Body
without n b = record b { operands = drop n b.operands }

-- The instruction of a call leads into it.
abbrev pub Enters : Codes → (thread budget : ℕ) → Type 0
Enters codes thread budget =
    (given left : List Reply) (b : Body) (at : Place) (call : LibraryCall) (shape n : ℕ)
    → slice_get (function_at codes.functions b.at.function) b.at.place
    ≡ Some (record { place = at; does = Among (Library call shape n) })
    → is_exit call ≡ false → is_formed codes.shapes call shape (youngest n b.operands) ≡ true → MayMeet call b
    → Stands codes thread budget given left b
    → StandsInside codes thread budget given left at
    (library_call codes.threads codes.shapes thread (private_shapes (state_of b [] [])) call shape
    (youngest n b.operands))
    (without n b)

-- A call of the library that is on its way: its place in the source, and what is left of it, by the shapes of the
-- program.
pub record OnItsWay : Type 0 where
  pub place : Place
  pub left : List Shape → Expansion (Unit {0})

module _ (codes : Codes) (thread budget : ℕ) where
  -- The thread stands inside the call that is on its way, or between two instructions where none is.
  abbrev pub StandsAt : (given left : List Reply) → Option OnItsWay → Body → Type 0
  StandsAt given left None b = Stands codes thread budget given left b
  StandsAt given left (Some c) b =
      StandsInside codes thread budget given left c.place (gives_zero (c.left codes.shapes)) b

  -- The action that is wanted there, at so many ticks.
  abbrev pub Awaited : Option OnItsWay → Body → Action → (ticks : ℕ) → Type 0
  Awaited None b a n = one (thread_of codes thread budget) codes.functions [] b ≡ Awaits a n []
  Awaited (Some c) b a n = (wanted_in (gives_zero (c.left codes.shapes)) ≡ Some a) × (b.ticks ≡ n)
