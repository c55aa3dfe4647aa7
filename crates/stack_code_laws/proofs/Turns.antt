-- Notifies and waits alternate in whatever a thread of code does.
use Rattle.std.proofs.Common.{◌≡◌, ℕ, ◌+◌, false, List, Some, refl, sym, subst, append-nil}
use Rattle.upc_values.specs.declared.action.Reply.{Reply}
use Rattle.upc_values.specs.declared.record.ToldEnd.{ToldEnd}
use Rattle.upc_values.specs.declared.record.ToldEnd.TheVariants as told
use Rattle.upc_values.specs.Outcomes.{Outcome}
use Rattle.thread_steps.specs.States.{Thread, State, Res, Val, Over, Unfinished, Doing}
use Rattle.thread_steps.specs.layer.Parts.{turned_by}
use Rattle.thread_steps.specs.Actions.{tick}
use Rattle.thread_steps.specs.layer.Fronts.{IsInTurn}
use Rattle.thread_steps.proofs.Turning.{IsFine, Ends, InTurn, turning}
use Rattle.stack_code.specs.layer.Codes.{Codes, thread_of}
use Rattle.stack_code.specs.layer.Steps.{Conf, At, Halt, steps}
use Rattle.stack_code.specs.layer.Outcomes.{CodeMeans, HasEnded, told_by, beginning}
use Rattle.stack_code_laws.specs.code.Turns.{TakesTurns}
use Rattle.stack_code_laws.proofs.Walks.{On, IsRule, Stands, steps_stand}

-- In what was done notifies and waits alternate, and a notify is open after it as the state says.
abbrev IsTurn : ℕ → State → Type 0
IsTurn s σ = turned_by (Some false) σ.actions ≡ Some σ.notified

fine_turns : (e : ToldEnd) (υ : State) → IsFine e υ → TakesTurns (told_by e υ)
fine_turns (told.Wants a) υ h = h
fine_turns (told.Misfit n) υ h = subst IsInTurn (sym (append-nil υ.actions)) h
fine_turns (told.Ended v) υ h = subst IsInTurn (sym (append-nil υ.actions)) h
fine_turns (told.Exit v) υ h = subst IsInTurn (sym (append-nil υ.actions)) h
fine_turns (told.Fault code at) υ h = subst IsInTurn (sym (append-nil υ.actions)) h
fine_turns told.OutOfTicks υ h = subst IsInTurn (sym (append-nil υ.actions)) h

module _ (τ : Thread) where
  on_turn : {A : Type 0} (d s : ℕ) (r : Res A) → Ends τ d r → On IsTurn IsFine s r
  on_turn d s (Val v υ) e = e.turn
  on_turn d s (Over t υ) e = e
  on_turn d s Unfinished e = (false, refl)

  turns_by : (A : Type 0) (m : Doing A) → ((d : ℕ) → InTurn τ 0 d A m) → (s : ℕ) (σ : State) → IsTurn s σ
      → On IsTurn IsFine s (m σ)
  turns_by A m keeps s σ t =
      on_turn _ s (m σ) ((keeps _).by σ (record { turn = t; noted = refl; deep = refl }))

  turns_rule : IsRule IsTurn IsFine τ (InTurn τ) 0
  turns_rule = record {
    kept = turning τ;
    by = turns_by;
    ticked = λ s σ t. turns_by (Unit {0}) (tick τ) (λ d. (turning τ).of_tick 0 d) (s + 1) σ t;
    live = λ f s σ t. t;
    faults = λ code at s σ t. (σ.notified, t);
    ended = λ v s σ t. (σ.notified, t);
  }

ended_turns : (c : Conf) (o : Outcome) → Stands IsTurn IsFine c → HasEnded c o → TakesTurns o
ended_turns (At here vs operands calls σ) o h e = absurd e
ended_turns (Halt t υ) o h e = subst TakesTurns e (fine_turns t υ h)

pub takes_turns : (codes : Codes) (thread budget : ℕ) (replies : List Reply) (o : Outcome)
    → CodeMeans codes thread budget replies o → TakesTurns o
takes_turns codes thread budget replies o m =
    let τ = thread_of codes thread budget in
    ended_turns (steps τ codes.functions m.count (beginning codes replies)) o
    (steps_stand IsTurn IsFine τ (InTurn τ) 0 (turns_rule τ) codes.functions m.count (beginning codes replies)
    (0, refl)) m.ended
