-- The body of a function that is no block begins.
use Rattle.std.proofs.Common.{◌≡◌, false, List, [], ◌∷◌, refl, sym, ap, ◌∙◌}
use Rattle.upc_values.specs.declared.scalar.Value.{Value as Given}
use Rattle.typed_tree.specs.Tree as tree
use Rattle.typed_tree.specs.Tree.{Statement, Stands, Function}
use Rattle.thread_steps.specs.States.{bind}
use Rattle.source_meaning.specs.Running.{Running}
use Rattle.source_meaning.specs.Expressions.{Calls}
use Rattle.source_meaning.specs.Statements.{run}
use Rattle.source_meaning.specs.Threads.{called, body, in_body}
use Rattle.upc_meaning_work.specs.layer.Bodies.{is_block}
use Rattle.upc_meaning_work.specs.layer.Seen.{Seen, meant, entered, more_works}
use Rattle.upc_meaning_work.specs.layer.Items.{Run}
use Rattle.upc_meaning_work.specs.layer.Left.{left}

module _ (ρ : Running) (call : Calls) (f : Function) (vs : List Given) where
  other_in : (b : Statement) → is_block b ≡ false → body ρ call f vs b ≡ run ρ call (in_body ρ f false) b
  other_in (Stands at (tree.Block strict items)) h = absurd (cc)
  other_in (Stands at kind) h = refl

module _ (ρ : Running) (s t : Seen) where
  pub other_goes : (f : Function) (vs : List Given) → is_block f.body ≡ false
      → t ≡ more_works (Run (in_body ρ f false) f.body ∷ []) s → entered ρ f vs s ≡ meant ρ t
  unfolding entered meant
  other_goes f vs h same =
      ap (λ m. bind (m s.state) (λ g. left ρ s.works s.free g s.values)) (other_in ρ (called ρ s.free) f vs f.body h)
      ∙ ap (meant ρ) (sym same)

pub ruleset others = (other_goes)
