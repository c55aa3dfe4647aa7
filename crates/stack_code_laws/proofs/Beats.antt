-- A thread of code wants its Beats at the multiples of 1,024 ticks.
use Rattle.std.proofs.Common.{◌≡◌, ℕ, ◌+◌, ◌*◌, ◌/◌, List, refl, ap, subst, ◌∙◌}
use Rattle.upc_values.specs.declared.action.Action.TheVariants.{Beat}
use Rattle.upc_values.specs.declared.action.Reply.{Reply}
use Rattle.upc_values.specs.declared.record.ToldEnd.TheVariants.{Wants}
use Rattle.upc_values.specs.Outcomes.{Outcome}
use Rattle.upc_values.specs.Records.{beats}
use Rattle.thread_steps.specs.States.{Thread, State, Res, Val, Over, Unfinished, Doing}
use Rattle.thread_steps.specs.Actions.{tick}
use Rattle.thread_steps.proofs.Depths.{depth}
use Rattle.thread_steps.proofs.Beating.{IsDue, Beating, Ends, beating}
use Rattle.stack_code.specs.layer.Codes.{Codes, thread_of}
use Rattle.stack_code.specs.layer.Steps.{Conf, At, Halt, steps}
use Rattle.stack_code.specs.layer.Outcomes.{CodeMeans, HasEnded, beginning}
use Rattle.stack_code_laws.proofs.Walks.{On, IsRule, Stands, steps_stand}

-- Each multiple of 1,024 ticks had its Beat.
abbrev HasBeaten : ℕ → State → Type 0
HasBeaten s σ = σ.ticks / 1024 ≡ beats σ.actions

module _ (τ : Thread) where
  on_beaten : {A : Type 0} (d s : ℕ) (r : Res A) → Ends d r → On HasBeaten IsDue s r
  on_beaten d s (Val v υ) e = e.beaten
  on_beaten d s (Over t υ) e = e
  on_beaten d s Unfinished e = tt

  beats_by : (A : Type 0) (m : Doing A) → ((d : ℕ) → Beating 0 d A m) → (s : ℕ) (σ : State) → HasBeaten s σ
      → On HasBeaten IsDue s (m σ)
  beats_by A m keeps s σ b =
      on_beaten (depth σ.store) s (m σ) ((keeps (depth σ.store)).by σ (record { beaten = b; deep = refl }))

  beats_rule : IsRule HasBeaten IsDue τ Beating 0
  beats_rule = record {
    kept = beating τ;
    by = beats_by;
    ticked = λ s σ b. beats_by (Unit {0}) (tick τ) (λ d. (beating τ).of_tick 0 d) (s + 1) σ b;
    live = λ f s σ b. b;
    faults = λ code at s σ b. tt;
    ended = λ v s σ b. tt;
  }

ended_due : (c : Conf) (o : Outcome) → Stands HasBeaten IsDue c → HasEnded c o → o.«end» ≡ Wants Beat
    → o.ticks ≡ 1024 * (beats o.actions + 1)
ended_due (At here vs operands calls σ) o h e w = absurd e
ended_due (Halt t υ) o h e w =
    subst (λ (p : Outcome). p.ticks ≡ 1024 * (beats p.actions + 1)) e
    (subst (λ x. IsDue x υ) (ap (λ p. p.«end») e ∙ w) h)

-- A Beat is wanted at a multiple of 1,024 ticks, where each such multiple before it had its own.
pub beats_in_time : (codes : Codes) (thread budget : ℕ) (replies : List Reply) (o : Outcome)
    → CodeMeans codes thread budget replies o → o.«end» ≡ Wants Beat → o.ticks ≡ 1024 * (beats o.actions + 1)
beats_in_time codes thread budget replies o m w =
    let τ = thread_of codes thread budget in
    ended_due (steps τ codes.functions m.count (beginning codes replies)) o
    (steps_stand HasBeaten IsDue τ Beating 0 (beats_rule τ) codes.functions m.count (beginning codes replies) (0, refl))
    m.ended w
