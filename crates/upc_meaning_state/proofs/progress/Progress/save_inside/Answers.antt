use Rattle.std.proofs.Common.{◌≡◌, sym, refl, ap, ◌∙◌, subst}
use Rattle.std.specs.Prelude.{Ok, Err}
use Rattle.upc_values.specs.declared.record.ToldEnd.TheVariants.{Fault}
use Rattle.upc_values.specs.declared.scalar.Value.{Value}
use Rattle.private_store.specs.Live.{Live}
use Rattle.private_store.specs.Cells.{stored}
use Rattle.thread_steps.specs.States.{Over}
use Rattle.upc_library.specs.layer.Walks.{rest}
use Rattle.upc_meaning_state.specs.layer.Came.{state_seen}
use Rattle.upc_meaning_settings.specs.layer.Runners.{thread_seen}
use Rattle.upc_meaning_state.proofs.Walking.{save_gives, save_ends}
use Rattle.upc_meaning_state.proofs.progress.Progress.save_inside.Goals as goal

pub returns-in-Err : goal.returns-in-Err
returns-in-Err c =
    let σ = state_seen c.args.self.now in
    record {
      goes = save_ends (thread_seen c.args.runner) c.args.place σ (rest c.args.call.now) c.args.p c.args.kind c.args.v
          c.in-Err.code c.requires
          (subst (λ (w : Value). stored c.args.p c.args.kind w c.args.self.now.store ≡ Err c.in-Err.code)
          c.kept.ensures.value c.in-Err.ensures.code)
          ∙ ap (λ (s : Live). Over (Fault c.in-Err.code c.args.place) (record σ { store = s })) (sym c.in-Err.ensures.err);
      answers = tt;
    }

pub returns-in-Ok : goal.returns-in-Ok
returns-in-Ok c = record {
  goes = save_gives (thread_seen c.args.runner) c.args.place (state_seen c.args.self.now) (rest c.args.call.now) c.args.p
      c.args.kind c.args.v c.store.new.self c.requires
      (subst (λ (w : Value). stored c.args.p c.args.kind w c.args.self.now.store ≡ Ok c.store.new.self)
      c.kept.ensures.value c.in-Ok.ensures.ok);
  answers = refl;
}
