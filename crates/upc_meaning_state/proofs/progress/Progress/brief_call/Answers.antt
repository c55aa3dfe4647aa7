use Rattle.upc_meaning_state.specs.layer.Came.{state_seen}
use Rattle.upc_meaning_settings.specs.layer.Runners.{thread_seen}
use Rattle.upc_meaning_state.proofs.AtOnce.{fails_at_once, gives_at_once}
use Rattle.upc_meaning_state.proofs.progress.Progress.brief_call.Goals as goal

pub returns-in-Err : goal.returns-in-Err
returns-in-Err c =
    fails_at_once (thread_seen c.args.runner) c.args.place (state_seen c.args.self.now) c.args.call c.args.shape
    c.args.args.now c.in-Some.answer c.in-Err.code c.in-Err.is c.in-Some.ensures.value

pub returns-in-Ok : goal.returns-in-Ok
returns-in-Ok c =
    gives_at_once (thread_seen c.args.runner) c.args.place (state_seen c.args.self.now) c.args.call c.args.shape
    c.args.args.now c.in-Some.answer c.in-Ok.v c.in-Ok.is c.in-Some.ensures.value
