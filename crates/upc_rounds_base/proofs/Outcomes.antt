-- What a run takes of code for its opening: the code has outcomes, and they keep what every meaning keeps.
use Rattle.std.proofs.Common.{◌≡◌, ℕ, ◌<◌, ◌≤◌, List, [], ◌∷◌, ◌++◌, sym, ap, subst, ◌∙◌}
use Rattle.upc_values.specs.declared.action.Action.{Action}
use Rattle.upc_values.specs.declared.action.Reply.{Reply}
use Rattle.upc_values.specs.declared.record.ToldEnd.{ToldEnd}
use Rattle.upc_values.specs.declared.record.ToldEnd.TheVariants.{Wants}
use Rattle.upc_values.specs.Openings.{Opening, IsOpening}
use Rattle.upc_values.specs.Outcomes.{Outcome}
use Rattle.thread_steps.specs.layer.Fronts.{IsInTurn}
use Rattle.stack_code.specs.layer.Codes.{Codes}
use Rattle.stack_code.specs.layer.Kept.{IsCode}
use Rattle.stack_code.specs.layer.Outcomes.{CodeMeans}
use Rattle.stack_code_laws.specs.layer.Asking.{IsCodeFor, IsThreadOf}
use Rattle.stack_code_laws.proofs.Naming.{names_declared}
use Rattle.stack_code_laws.proofs.Endings.{has_outcome, is_within_budget}
use Rattle.stack_code_laws.proofs.Meanings.{is_meaning}
use Rattle.stack_code_laws.proofs.Turns.{takes_turns}
use Rattle.typed_tree.specs.declared.program.Program.{Program}
use Rattle.upc_task.specs.declared.limits.Limits.{Limits}
use Rattle.upc_task.specs.layer.Sources.{Outcomes, IsSource, GivesOutcomes, HasOutcomes}
use Rattle.upc_rounds_base.specs.layer.Openings.{opening_of}
use Rattle.upc_rounds_base.proofs.Openings.{kept_opening}

module _ (o : Opening) (p : Codes) (l : Limits) (opens : IsOpening o) (code : IsCode p) (fits : IsCodeFor o p)
    (threads : o.threads ≡ l.threads) (some : 1 ≤ l.budget) where
  module _ (f : Outcomes) (gives : GivesOutcomes p l f) where
    is_thread : (t : ℕ) → t < l.threads → IsThreadOf o p t l.budget (f t)
    is_thread t lt = record {
      opening = opens;
      code = code;
      declared = names_declared o p code fits;
      number = subst (λ n. t < n) (sym (fits.threads ∙ threads)) lt;
      ticks = some;
      means = gives t lt;
    }

    -- What the thread wants keeps its notifies and waits in turn.
    wants_in_turn : (t : ℕ) → t < l.threads → (rs : List Reply) (a : Action) → (f t rs).«end» ≡ Wants a
        → IsInTurn ((f t rs).actions ++ a ∷ [])
    wants_in_turn t lt rs a e =
        let ending : ToldEnd → Outcome =
        λ z. record { actions = (f t rs).actions; ticks = (f t rs).ticks; «end» = z } in
        takes_turns p t l.budget rs (ending (Wants a))
        (subst (CodeMeans p t l.budget rs) (ap ending e) (gives t lt rs))

    is_source : (t : ℕ) → t < l.threads → IsSource o l.budget (f t)
    is_source t lt = record {
      means = is_meaning o p t l.budget (f t) (is_thread t lt);
      turns = wants_in_turn t lt;
      spends = λ rs e. (is_within_budget p t l.budget rs (f t rs) some (gives t lt rs)).spent e;
    }

    -- Outcomes of the code are those of a run.
    pub has_outcomes : HasOutcomes o p l f
    has_outcomes = record {
      threads = threads;
      code = fits.threads ∙ threads;
      means = gives;
      sources = is_source;
    }

  -- The code has outcomes.
  pub outcomes_there : (f : Outcomes) × HasOutcomes o p l f
  outcomes_there =
      let f : Outcomes = λ t rs. (has_outcome p t l.budget rs code some).0 in
      (f, has_outcomes f (λ t lt rs. (has_outcome p t l.budget rs code some).1))

-- The code of a program has outcomes.
pub there : (program : Program) (p : Codes) (l : Limits) → IsCode p → IsCodeFor (opening_of program) p
    → program.threads ≡ l.threads → 1 ≤ l.budget → (f : Outcomes) × HasOutcomes (opening_of program) p l f
there program p l code fits same some =
    let o : Opening = opening_of program in
    outcomes_there o p l (kept_opening o program.opening) code fits same some
