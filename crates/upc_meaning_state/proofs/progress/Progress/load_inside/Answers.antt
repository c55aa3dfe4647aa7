use Rattle.std.proofs.Common.{◌≡◌, sym, refl, ◌∙◌, subst}
use Rattle.upc_values.specs.declared.scalar.Scalar.{Scalar}
use Rattle.upc_values.specs.declared.action.Reply.TheVariants as reply
use Rattle.upc_values.specs.Expansion.{after_reply}
use Rattle.upc_values.specs.LibraryCalls.{gives_zero}
use Rattle.upc_library.specs.layer.Walks.{rest}
use Rattle.upc_meaning_state.specs.layer.Came.{state_seen}
use Rattle.upc_meaning_state.specs.layer.Libraries.{expanded_to}
use Rattle.upc_meaning_settings.specs.layer.Runners.{thread_seen}
use Rattle.upc_meaning_state.proofs.Walking.{load_gives, load_ends}
use Rattle.upc_meaning_state.proofs.progress.Progress.load_inside.Goals as goal

pub returns-in-Err : goal.returns-in-Err
returns-in-Err c = record {
  goes = load_ends (thread_seen c.args.runner) c.args.place (state_seen c.args.self.now) (rest c.args.call.now) c.args.p
      c.args.kind c.in-Err.code c.requires (sym c.load.ensures.value ∙ c.in-Err.is);
  answers = tt;
}

pub returns-in-Ok : goal.returns-in-Ok
returns-in-Ok c =
    let τ = thread_seen c.args.runner in
    let σ = state_seen c.args.self.now in
    let x = rest c.args.call.now in
    record {
      goes = subst (λ (v : Scalar). expanded_to τ c.args.place (gives_zero x) σ
          ≡ expanded_to τ c.args.place (gives_zero (after_reply x (reply.Value v))) σ) (sym c.scalar_of.ensures.value)
          (load_gives τ c.args.place σ x c.args.p c.args.kind c.in-Ok.v c.requires (sym c.load.ensures.value ∙ c.in-Ok.is));
      answers = refl;
    }
