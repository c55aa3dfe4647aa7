use Rattle.std.proofs.Common.{rules, ◌≡◌, true, sym, subst}
use Rattle.std.specs.Prelude.{IfOk}
use Rattle.upc_values.specs.Calls.{call_of}
use Rattle.upc_values.specs.declared.scalar.Value.{Value}
use Rattle.thread_steps.specs.States.{Res}
use Rattle.collectives.specs.layer.Arguments.{copies_or_reduces}
use Rattle.thread_values.specs.layer.Collectives.{scalars_met}
use Rattle.upc_meaning_state.specs.layer.Came.{Came, state_seen}
use Rattle.upc_meaning_settings.specs.layer.Runners.{thread_seen}
use Rattle.upc_meaning_state.proofs.CollectiveCalls.{meets_so}
use Rattle.upc_meaning_state.proofs.progress.Progress.collective_call.Goals as goal

pub returns : goal.returns
returns c =
    let met = c.as_slice-scalars.result.now in
    let same : met ≡ scalars_met c.args.call c.args.args.now = search rules in
    let on : copies_or_reduces (call_of c.args.number met) ≡ true = search rules in
    subst (λ (r : Res Value). IfOk c.met_together.result (λ s. Came r s c.met_together.new.self))
    (sym (meets_so (thread_seen c.args.runner) c.args.place (state_seen c.args.self.now) c.args.call c.args.number
    c.args.shape c.args.args.now met c.requires.number same on))
    c.met_together.ensures
