-- A statement by its kind.
use Rattle.std.proofs.Common.{◌≡◌, Result, IfOk, sym, subst}
use Rattle.upc_text.specs.declared.place.Place.{Place}
use Rattle.typed_tree.specs.Tree.{StatementKind, Stands}
use Rattle.source_meaning.specs.Running.{Running}
use Rattle.source_meaning.specs.Statements.{Standing}
use Rattle.upc_meaning_state.specs.declared.progress.Step.{Step}
use Rattle.upc_meaning_work.specs.layer.Seen.{Seen, with_item}
use Rattle.upc_meaning_work.specs.layer.Items.{Run}
use Rattle.upc_meaning_work.specs.declared.evaluation.Evaluation.{Evaluation}
use Rattle.upc_meaning_work.specs.layer.Evaluations.{Went}

pub went_as : {E : Type 0} (ρ : Running) (κ : Standing) (s : Seen) (at : Place) (k n : StatementKind) → k ≡ n
    → (m : Evaluation) (r : Result (Step (Unit {0})) E)
    → IfOk r (λ x. Went ρ (with_item ρ (Run κ (Stands at n)) s) x m)
    → IfOk r (λ x. Went ρ (with_item ρ (Run κ (Stands at k)) s) x m)
went_as ρ κ s at k n is m r h =
    subst (λ (y : StatementKind). IfOk r (λ x. Went ρ (with_item ρ (Run κ (Stands at y)) s) x m)) (sym is) h
