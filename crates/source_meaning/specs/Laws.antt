-- What holds of every thread of every program.
use Rattle.std.specs.Prelude.{◌≡◌, ◌⊎◌, ℕ, zero, suc, ◌+◌, ◌*◌, ◌^◌, ◌<◌, ◌≤◌, ℤ, Bool, true, false, List, [], ◌∷◌}
use Rattle.std.specs.Prelude.{◌++◌, length, map, Option}
use Rattle.block_layout.specs.declared.kind.Kind.{Kind}
use Rattle.upc_values.specs.declared.action.Action.{Action}
use Rattle.upc_values.specs.declared.action.Reply.{Reply}
use Rattle.upc_values.specs.declared.record.ToldEnd.{ToldEnd}
use Rattle.upc_values.specs.declared.scalar.Mark.TheVariants.{Start, Finish}
use Rattle.upc_values.specs.declared.action.Action.TheVariants.{Notify, Wait, Beat, Read}
use Rattle.upc_values.specs.declared.record.ToldEnd.TheVariants.{Wants, Misfit, Ended, OutOfTicks}
use Rattle.upc_values.specs.declared.journal.Entry.{Entry}
use Rattle.upc_values.specs.Outcomes.{Outcome}
use Rattle.upc_values.specs.Formed.{fits, fits_after}
use Rattle.upc_values.specs.Openings.{Opening}
use Rattle.upc_values.specs.Records.{beats}
use Rattle.typed_tree.specs.Beginnings.{opening_in}
use Rattle.typed_tree.specs.Programs.{Checked, start_of}
use Rattle.typed_tree.specs.Tree.{Exprs, NoExprs, AndExpr}
use Rattle.typing_rules.specs.Library.{call_parameters}
use Rattle.upc_values.specs.declared.library.LibraryCall.{LibraryCall}
use Rattle.upc_values.specs.declared.scalar.Value.{Value}
use Rattle.thread_steps.specs.States.{Thread, State, Res, Val, Unfinished, Doing}
use Rattle.thread_steps.specs.layer.Fronts.{Begins, IsInTurn}
use Rattle.thread_steps.specs.Library.{has_shape, is_formed}
use Rattle.source_meaning.specs.Types.{parameter_conversion}
use Rattle.source_meaning.specs.Running.{Running, running}
use Rattle.source_meaning.specs.Expressions.{Calls, arguments}
use Rattle.source_meaning.specs.Threads.{course, initial_state, thread_outcome}

-- A value came, or the thread ended: no definition lacked turns.
abbrev pub IsFinished : {A : Type 0} → Res A → Type 0
IsFinished Unfinished = ⊥
IsFinished r = Unit {0}

-- With a budget of at least one tick no thread of a program is unfinished.
pub record IsTotal (program : Checked) : Type 0 where
  pub finished :
      (thread budget : ℕ) (replies : List Reply) → 0 < budget
      → IsFinished (course (running program thread budget) (initial_state program replies))

-- An end that no further reply changes.
abbrev pub IsSettled : ToldEnd → Type 0
IsSettled (Wants a) = ⊥
IsSettled e = Unit {0}

-- What a further reply does to an action that was wanted: where it fits the action, a read being of a cell of that
-- kind, the action is done; where it does not, the thread ends by this reply, before the action.
pub record IsAnswered (τ : Thread) (kind : Option Kind) (a : Action) (r : Reply) (before : Outcome) (number : ℕ)
    (after : Outcome) : Type 0 where
  pub done : fits τ.threads τ.shapes kind a r ≡ true → Begins (before.actions ++ a ∷ []) after.actions
  pub misfit : fits τ.threads τ.shapes kind a r ≡ false
      → (after.«end» ≡ Misfit number) × (after.actions ≡ before.actions)

-- The reply with this number does not fit the action that was wanted before it, a read being of a cell of that kind;
-- whatever other reply stood there would be judged by the same kind.
pub record IsUnfit (τ : Thread) (outcome : List Reply → Outcome) (rs : List Reply) (number : ℕ) : Type 0 where
  pub front : List Reply
  pub reply : Reply
  pub more : List Reply
  pub is : rs ≡ front ++ reply ∷ more
  pub place : length front ≡ number
  pub action : Action
  pub wanted : (outcome front).«end» ≡ Wants action
  pub kind : Option Kind
  pub answered :
      (r : Reply) (rest : List Reply) → IsAnswered τ kind action r (outcome front) number (outcome (front ++ r ∷ rest))
  pub unfit : fits τ.threads τ.shapes kind action reply ≡ false

-- A thread's outcome takes the replies in order: each answers one action, and none is looked at before its action is
-- wanted.
pub record TakesReplies (τ : Thread) (outcome : List Reply → Outcome) : Type 0 where
  pub once : (rs : List Reply) → length (outcome rs).actions ≤ length rs
  pub wants : (rs : List Reply) (a : Action) → (outcome rs).«end» ≡ Wants a → length (outcome rs).actions ≡ length rs
  pub goes :
      (rs : List Reply) (a : Action) → (outcome rs).«end» ≡ Wants a
      → (kind : Option Kind)
      × ((r : Reply) (more : List Reply) → IsAnswered τ kind a r (outcome rs) (length rs) (outcome (rs ++ r ∷ more)))
  pub stays :
      (rs : List Reply) (r : Reply) (more : List Reply) → IsSettled (outcome rs).«end» → outcome (rs ++ r ∷ more) ≡
      outcome rs
  pub misfits : (rs : List Reply) (k : ℕ) → (outcome rs).«end» ≡ Misfit k → IsUnfit τ outcome rs k

-- The outcome of each thread of a program, with a budget of at least one tick, takes the replies in order.
pub record AllTakeReplies (program : Checked) : Type 0 where
  pub each : (thread budget : ℕ) → 0 < budget
      → TakesReplies (running program thread budget).thread (thread_outcome program thread budget)

-- The barrier before main (UPC 6.6.1).
abbrev pub beginning : List Action
beginning = Notify Start ∷ Wait Start ∷ []

-- A thread begins with the barrier before main, or it ended in it; and where main has given its value it ends with
-- the barrier after main (UPC 6.6.1).
pub record IsFramed (outcome : Outcome) : Type 0 where
  pub begins : Begins outcome.actions beginning ⊎ Begins beginning outcome.actions
  pub ends : (v : ℤ) → outcome.«end» ≡ Ended v
      → (before : List Action) × (outcome.actions ≡ before ++ Notify Finish ∷ Wait Finish ∷ [])

-- Each thread of a program, with a budget of at least one tick, stands between the barrier before main and the one
-- after it (UPC 6.6.1).
pub record AllAreFramed (program : Checked) : Type 0 where
  pub each : (thread budget : ℕ) (replies : List Reply) → 0 < budget
      → IsFramed (thread_outcome program thread budget replies)

-- A thread counts no more ticks than its budget, and where its ticks are out it has counted just so many.
pub record KeepsBudget (budget : ℕ) (outcome : Outcome) : Type 0 where
  pub ticks : outcome.ticks ≤ budget
  pub spent : outcome.«end» ≡ OutOfTicks → outcome.ticks ≡ budget

-- No thread of a program, with a budget of at least one tick, counts more ticks than its budget.
pub record AllKeepBudgets (program : Checked) : Type 0 where
  pub each :
      (thread budget : ℕ) (replies : List Reply) → 0 < budget
      → KeepsBudget budget (thread_outcome program thread budget replies)

-- Notifies and waits alternate in what a thread did, with the action that it wants, if it wants one (UPC 6.6.1).
pub record KeepsTurns (outcome : Outcome) : Type 0 where
  pub wants : (a : Action) → outcome.«end» ≡ Wants a → IsInTurn (outcome.actions ++ a ∷ [])
  pub settled : IsSettled outcome.«end» → IsInTurn outcome.actions

-- In what each thread of a program does, with a budget of at least one tick, notifies and waits alternate (UPC 6.6.1).
pub record AllKeepTurns (program : Checked) : Type 0 where
  pub each :
      (thread budget : ℕ) (replies : List Reply) → 0 < budget
      → KeepsTurns (thread_outcome program thread budget replies)

-- A Beat is wanted at a multiple of 1,024 ticks, where each such multiple before it had its own.
pub record BeatsInTime (outcome : List Reply → Outcome) : Type 0 where
  pub ticks : (rs : List Reply) → (outcome rs).«end» ≡ Wants Beat
      → (outcome rs).ticks ≡ 1024 * (beats (outcome rs).actions + 1)

-- Each thread of a program wants its Beats at the multiples of 1,024 ticks, one at each.
pub record AllBeatInTime (program : Checked) : Type 0 where
  pub each : (thread budget : ℕ) → BeatsInTime (thread_outcome program thread budget)

-- The shared part of what a program begins with.
abbrev pub opening_of : Checked → Opening
opening_of program = opening_in program.threads (start_of program)

-- The action is a read of a shared location.
abbrev pub is_read : Action → Bool
is_read (Read l strict) = true
is_read a = false

-- On no reply nothing is done. A reply that fits the wanted action adds it to what was done, and nothing else; a reply
-- to a read fits by the kind of the cell that the thread reads, any other by what the action is, whatever happened
-- before.
pub record GoesOn (o : Opening) (outcome : List Reply → Outcome) : Type 0 where
  pub begins : (outcome []).actions ≡ []
  pub goes :
      (rs : List Reply) (before : List Entry) (a : Action) (r : Reply) → (outcome rs).«end» ≡ Wants a
      → is_read a ≡ false → fits_after o before a r ≡ true
      → (outcome (rs ++ r ∷ [])).actions ≡ (outcome rs).actions ++ a ∷ []
  pub reads :
      (rs : List Reply) (a : Action) → (outcome rs).«end» ≡ Wants a
      → (kind : Option Kind)
      × ((r : Reply) → fits o.threads o.shapes kind a r ≡ true
      → (outcome (rs ++ r ∷ [])).actions ≡ (outcome rs).actions ++ a ∷ [])

-- Each thread of a program, with a budget of at least one tick, begins with nothing done and goes on by each reply that
-- fits.
pub record AllGoOn (program : Checked) : Type 0 where
  pub each : (thread budget : ℕ) → 0 < budget → GoesOn (opening_of program) (thread_outcome program thread budget)

-- There are so many arguments.
abbrev pub AreSoMany : ℕ → Exprs → Type 0
AreSoMany zero NoExprs = Unit {0}
AreSoMany (suc n) (AndExpr a more) = AreSoMany n more
AreSoMany n args = ⊥

-- The value of a result passes, if it has one.
abbrev pub GivesIn : {A : Type 0} → (A → Type 0) → Res A → Type 0
GivesIn V (Val v σ) = V v
GivesIn V r = Unit {0}

-- Whatever value comes of what is done passes.
pub record Gives (A : Type 0) (V : A → Type 0) (m : Doing A) : Type 0 where
  pub by : (σ : State) → GivesIn V (m σ)

-- Where a call of the library has as many arguments as parameters, all threads may meet with what comes of them. In an
-- allocation by all threads the program has the shape, whose number is below 2^64.
pub record FormsCalls (ρ : Running) : Type 0 where
  pub formed :
      (functions : Calls) (strict : Bool) (call : LibraryCall) (shape : ℕ) (args : Exprs)
      → AreSoMany (length (call_parameters call)) args → has_shape ρ.thread.shapes call shape ≡ true → shape < 2 ^ 64
      → Gives (List Value) (λ vs. is_formed ρ.thread.shapes call shape vs ≡ true)
      (arguments ρ functions strict (map parameter_conversion (call_parameters call)) args [])

-- In each thread of a program all threads may meet with the arguments of a collective call that has as many of them as
-- parameters.
pub record AllFormCalls (program : Checked) : Type 0 where
  pub each : (thread budget : ℕ) → FormsCalls (running program thread budget)
