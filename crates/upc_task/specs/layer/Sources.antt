-- What a run takes of the code: which outcomes it has on each thread, and where a thread's machine stands.
use Rattle.std.specs.Prelude.{ℕ, ◌≡◌, ◌<◌, List, [], ◌∷◌, ◌++◌}
use Rattle.upc_values.specs.declared.action.Action.{Action}
use Rattle.upc_values.specs.declared.action.Reply.{Reply}
use Rattle.upc_values.specs.declared.record.ToldEnd.TheVariants.{Wants, OutOfTicks}
use Rattle.upc_values.specs.Openings.{Opening}
use Rattle.upc_values.specs.Outcomes.{Outcome, IsMeaning}
use Rattle.thread_steps.specs.layer.Fronts.{IsInTurn}
use Rattle.stack_code.specs.layer.Codes.{Codes}
use Rattle.stack_code.specs.layer.Outcomes.{CodeMeans}
use Rattle.stack_machine.specs.layer.Machine.{Seen}
use Rattle.stack_machine.specs.layer.Machine.{HasHeard}
use Rattle.upc_task.specs.declared.limits.Limits.{Limits}

-- The outcome of each thread, by its number, on each list of replies.
abbrev pub Outcomes : Type 0
Outcomes = ℕ → List Reply → Outcome

-- What a run takes of a thread's outcomes: they keep what every meaning keeps; notifies and waits alternate in what the
-- thread did with what it wants; and where the ticks are spent there were b of them.
pub record IsSource (o : Opening) (b : ℕ) (outcome : List Reply → Outcome) : Type 0 where
  pub means : IsMeaning o outcome
  pub turns : (rs : List Reply) (a : Action) → (outcome rs).«end» ≡ Wants a → IsInTurn ((outcome rs).actions ++ a ∷ [])
  pub spends : (rs : List Reply) → (outcome rs).«end» ≡ OutOfTicks → (outcome rs).ticks ≡ b

-- On a thread of the code, with a budget, this is the outcome on each list of replies.
abbrev pub HasOutcome : Codes → (thread budget : ℕ) → (List Reply → Outcome) → Type 0
HasOutcome codes thread budget f = (replies : List Reply) → CodeMeans codes thread budget replies (f replies)

-- The code has these outcomes on the threads of a run with these limits.
abbrev pub GivesOutcomes : Codes → Limits → Outcomes → Type 0
GivesOutcomes p l f = (t : ℕ) → t < l.threads → HasOutcome p t l.budget (f t)

-- The code has these outcomes on the threads of a run with these limits, which begins with the opening; they keep what
-- a run takes of them.
pub record HasOutcomes (o : Opening) (p : Codes) (l : Limits) (f : Outcomes) : Type 0 where
  pub threads : o.threads ≡ l.threads
  pub code : p.threads ≡ l.threads
  pub means : GivesOutcomes p l f
  pub sources : (t : ℕ) → t < l.threads → IsSource o l.budget (f t)

-- The machine of a thread of the code, which has these outcomes, has had just these replies, in order.
pub record Follows (p : Codes) (t b : ℕ) (outcome : List Reply → Outcome) (given : List Reply) (m : Seen)
    : Type 0 where
  pub means : HasOutcome p t b outcome
  pub stands : HasHeard p t b given m
