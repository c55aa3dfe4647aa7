-- Calls whose arguments have their values.
use Rattle.std.proofs.Common.{◌≡◌, ℕ, ℤ, List, ◌∷◌, [], sym, ap, ◌∙◌}
use Rattle.upc_text.specs.declared.place.Place.{Place}
use Rattle.upc_values.specs.declared.scalar.Value.{Value as Given}
use Rattle.upc_values.specs.declared.library.LibraryCall.{LibraryCall}
use Rattle.upc_values.specs.declared.record.ToldEnd.{ToldEnd}
use Rattle.typing_rules.specs.Nodes.{Attr}
use Rattle.typed_tree.specs.declared.tree.Target.TheVariants as target
use Rattle.typed_tree.specs.Tree as tree
use Rattle.typed_tree.specs.Tree.{Expr, Is, Exprs}
use Rattle.thread_steps.specs.States.{State, Res, Val, Over, bind}
use Rattle.source_meaning.specs.Running.{Running}
use Rattle.upc_meaning_state.specs.layer.Libraries.{library_called}
use Rattle.upc_meaning_work.specs.layer.Seen.{Seen, meant, calls, called_with, entering, more_values}
use Rattle.upc_meaning_work.specs.layer.Seen.{with_state, without}
use Rattle.upc_meaning_work.specs.layer.Left.{left}
use Rattle.upc_meaning_work.specs.code.Stacks.{youngest}

module _ (ρ : Running) (s t : Seen) where
  pub calls_so : (e : Expr) (done : ℕ) (vs : List Given) → vs ≡ youngest done s.values → t ≡ without done s
      → calls ρ e done s ≡ called_with ρ e vs t
  unfolding calls called_with
  calls_so e done vs same below =
      ap (λ ws. called_with ρ e ws (without done s)) (sym same) ∙ ap (called_with ρ e vs) (sym below)

  pub function_calls : (at : Place) (attr : Attr) (kind : tree.ExprKind) (number : ℕ) (args : Exprs) (vs : List Given)
      → kind ≡ tree.Call (target.Function number) args
      → called_with ρ (Is at attr kind) vs s ≡ entering ρ number vs at s
  unfolding called_with entering
  function_calls at attr kind number args vs is = ap (λ x. called_with ρ (Is at attr x) vs s) is

  behind : Res Given → Res ℤ
  behind r = bind r (λ v. left ρ s.works s.free s.flow (v ∷ s.values))

  library_is : (at : Place) (attr : Attr) (kind : tree.ExprKind) (c : LibraryCall) (args : Exprs) (vs : List Given)
      → kind ≡ tree.Call (target.Library c) args
      → called_with ρ (Is at attr kind) vs s ≡ behind (library_called ρ at attr c args vs s.state)
  unfolding called_with behind
  library_is at attr kind c args vs is = ap (λ x. called_with ρ (Is at attr x) vs s) is

  pub library_gives : (at : Place) (attr : Attr) (kind : tree.ExprKind) (c : LibraryCall) (args : Exprs)
      (vs : List Given) (v : Given) (τ : State) → kind ≡ tree.Call (target.Library c) args
      → library_called ρ at attr c args vs s.state ≡ Val v τ → t ≡ more_values (v ∷ []) (with_state τ s)
      → called_with ρ (Is at attr kind) vs s ≡ meant ρ t
  unfolding meant behind
  library_gives at attr kind c args vs v τ is h same =
      library_is at attr kind c args vs is ∙ ap behind h ∙ ap (meant ρ) (sym same)

  pub library_ends : (at : Place) (attr : Attr) (kind : tree.ExprKind) (c : LibraryCall) (args : Exprs)
      (vs : List Given) (over : ToldEnd) (τ : State) → kind ≡ tree.Call (target.Library c) args
      → library_called ρ at attr c args vs s.state ≡ Over over τ
      → called_with ρ (Is at attr kind) vs s ≡ Over over τ
  unfolding behind
  library_ends at attr kind c args vs over τ is h = library_is at attr kind c args vs is ∙ ap behind h

pub ruleset library_calls = (library_gives, library_ends)
