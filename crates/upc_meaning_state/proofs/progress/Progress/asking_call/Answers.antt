use Rattle.std.proofs.Common.{rules, ◌≡◌, true}
use Rattle.thread_steps.specs.Library.{is_formed}
use Rattle.thread_values.specs.layer.Asking.{asks_once}
use Rattle.upc_meaning_state.specs.layer.Came.{state_seen}
use Rattle.upc_meaning_settings.specs.layer.Runners.{thread_seen}
use Rattle.upc_meaning_state.proofs.Libraries.{formed, step_does}
use Rattle.upc_meaning_state.proofs.progress.Progress.asking_call.Goals as goal

pub returns-else-not-branch : goal.returns-else-not-branch
returns-else-not-branch c =
    let τ = thread_seen c.args.runner in
    let σ = state_seen c.args.self.now in
    let once : asks_once c.args.call ≡ true = search rules in
    let on : is_formed c.args.runner.shapes.now c.args.call c.args.shape c.args.args.now ≡ true = search rules in
    let does = step_does τ c.args.place σ c.args.call c.args.shape c.args.args.now c.in_ok-step.step c.in-Some.step
    c.in-Some.is (c.in_ok-step.ensures.does c.args.runner.threads) in
    rw (formed τ c.args.place σ c.args.call c.args.shape c.args.args.now c.in-Some.step c.is_collective.result once on
    does c.is_collective.ensures) c.met_step.ensures
