use Rattle.std.proofs.Common.{[], refl, arith, ◌<◌, length}
use Rattle.stack_code.specs.layer.Codes.{function_at}
use Rattle.stack_code.specs.layer.Steps.{further}
use Rattle.stack_machine.specs.code.Tasks.{spot_at, task_seen}
use Rattle.stack_machine.proofs.Arrivals.{err_any, remains}
use Rattle.stack_machine.proofs.Advancing.{on, holding}
use Rattle.stack_machine.proofs.calls.Task.object_step.Goals as goal

pub returns-in-Err-clause-does : goal.returns-in-Err-clause-does
returns-in-Err-clause-does c = λ before.
    err_any before _ c.in-Err.e _ _ _ _ (c.in-Err.ensures.does (further 1 (spot_at c.args.self.now)) c.args.self.now.given.items c.args.self.now.calls before)

pub returns-in-Err-clause-remains : goal.returns-in-Err-clause-remains
returns-in-Err-clause-remains c =
    remains [] _ c.in-Err.e c.args.self.now c.object_work.new.operands c.object_work.new.progress _
    (c.in-Err.ensures.does (spot_at c.args.self.now) [] [] []) c.in-Err.ensures.rests

pub returns-in-Ok-clause-does : goal.returns-in-Ok-clause-does
returns-in-Ok-clause-does c = λ before. c.in-Ok.ensures.does (further 1 (spot_at c.args.self.now)) c.args.self.now.given.items c.args.self.now.calls before

pub returns-in-Ok-clause-advances : goal.returns-in-Ok-clause-advances
returns-in-Ok-clause-advances c =
    let there : c.args.self.now.place < length (function_at c.args.code.now.functions c.args.self.now.function) = omega arith in
    on c.args.code.now c.args.runner.now.budget (task_seen c.args.self.now) _
    (holding c.args.code.now.threads c.args.code.now.shapes (task_seen c.args.self.now) _ c.requires.held refl
    c.in-Ok.ensures.kept.held)
    c.requires.in_time c.in-Ok.ensures.kept.ticks refl refl (omega arith) there
