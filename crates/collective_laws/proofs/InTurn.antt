-- What a thread did is in turn where it keeps its turns.
use Rattle.std.proofs.Common.{◌≡◌, Bool, false, List, [], ◌∷◌, ◌++◌, Option, Some, None, refl, sym, ap, ◌∙◌, subst}
use Rattle.upc_values.specs.declared.action.Action.{Action}
use Rattle.upc_values.specs.declared.record.ToldEnd.{ToldEnd}
use Rattle.upc_values.specs.declared.record.ToldEnd.TheVariants as told
use Rattle.upc_values.specs.Outcomes.{Outcome}
use Rattle.thread_steps.specs.layer.Fronts.{IsInTurn}
use Rattle.thread_steps.specs.layer.Parts.{turned_by}
use Rattle.source_meaning.specs.Laws.{IsSettled, KeepsTurns}
use Rattle.collective_laws_histories.proofs.Turning.{turned-append, no-turn}

-- What comes first is in turn too.
front-in_turn : (xs ys : List Action) → IsInTurn (xs ++ ys) → IsInTurn xs
front-in_turn xs ys h = by_state (turned_by (Some false) xs) refl
  where
    by_state : (s : Option Bool) → turned_by (Some false) xs ≡ s → IsInTurn xs
    by_state (Some b) q = (b, q)
    by_state None q =
        absurd (no-turn ys h.0
        (ap (λ s. turned_by s ys) (sym q) ∙ sym (turned-append (Some false) xs ys) ∙ h.1))

pub outcome-in_turn : (outcome : Outcome) → KeepsTurns outcome → IsInTurn outcome.actions
outcome-in_turn outcome k = by_end outcome.«end» refl
  where
    by_end : (e : ToldEnd) → outcome.«end» ≡ e → IsInTurn outcome.actions
    by_end (told.Wants a) q = front-in_turn outcome.actions (a ∷ []) (k.wants a q)
    by_end e q = k.settled (subst IsSettled (sym q) tt)
