use Rattle.collectives.specs.layer.Walks.{rest}
use Rattle.upc_meaning_state.specs.layer.Came.{state_seen}
use Rattle.upc_meaning_settings.specs.layer.Runners.{thread_seen}
use Rattle.upc_meaning_state.proofs.CollectiveCalls.{answers_so, takes_so, ends_so}
use Rattle.upc_meaning_state.proofs.progress.Progress.answer_together.Goals as goal

pub returns-in-Ok-Finished-clause-goes : goal.returns-in-Ok-Finished-clause-goes
returns-in-Ok-Finished-clause-goes c =
    let shapes = c.args.runner.shapes.now in
    ends_so (thread_seen c.args.runner) c.args.place (state_seen c.args.self.now) (rest shapes c.args.call.now)
    ((rw c.in-Ok-Finished.field-0-is at c.in-Ok-Finished.ensures.wish) shapes)

pub returns-in_ok-step-in-Ok-Act-clause-goes : goal.returns-in_ok-step-in-Ok-Act-clause-goes
returns-in_ok-step-in-Ok-Act-clause-goes c =
    let shapes = c.args.runner.shapes.now in
    answers_so (thread_seen c.args.runner) c.args.place (state_seen c.args.self.now) (rest shapes c.args.call.now)
    c.in-Ok-Act.action c.reads.result c.in_ok-step-in-Ok-Act.step c.ask.new.self
    ((rw c.in-Ok-Act.field-0-is at c.in-Ok-Act.ensures.wish) shapes) (c.reads.ensures shapes)
    c.in_ok-step-in-Ok-Act.ensures

pub returns-in_ok-step-in-Ok-Act-clause-taken : goal.returns-in_ok-step-in-Ok-Act-clause-taken
returns-in_ok-step-in-Ok-Act-clause-taken c =
    takes_so (thread_seen c.args.runner) c.args.place (state_seen c.args.self.now) c.in-Ok-Act.action c.reads.result
    c.in_ok-step-in-Ok-Act.step c.ask.new.self c.in_ok-step-in-Ok-Act.ensures
