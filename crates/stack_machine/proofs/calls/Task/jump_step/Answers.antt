use Rattle.std.proofs.Common.{[], refl}
use Rattle.stack_code.specs.layer.Codes.{thread_of}
use Rattle.stack_machine.specs.code.Tasks.{task_seen}
use Rattle.stack_machine.proofs.Arrivals.{remains_there}
use Rattle.stack_machine.proofs.Advancing.{holding, jumped_on, jump_inside}
use Rattle.stack_machine.proofs.calls.Task.jump_step.Goals as goal

pub returns-in-Err-clause-remains : goal.returns-in-Err-clause-remains
returns-in-Err-clause-remains c =
    remains_there [] _ c.in-Err.e c.args.self.now c.jump.new.place c.jump.new.operands c.jump.new.progress _
    (c.in-Err.ensures.does (thread_of c.args.code.now c.args.runner.now.number c.args.runner.now.budget) refl c.args.self.now.function [] [] []) c.in-Err.ensures.rests c.in-Err.ensures.stays

pub returns-in-Ok-clause-advances : goal.returns-in-Ok-clause-advances
returns-in-Ok-clause-advances c =
    jumped_on c.args.code.now c.args.runner.now.budget c.args.work.now (task_seen c.args.self.now) _
    c.args.self.now.progress c.jump.new.progress refl refl c.in-Ok.ensures.goes
    (jump_inside c.args.work.now c.args.self.now.place _ c.requires.lands)
    (holding c.args.code.now.threads c.args.code.now.shapes (task_seen c.args.self.now) _ c.requires.held refl
    (c.in-Ok.ensures.held c.args.code.now.threads c.args.code.now.shapes
    (record { operands_are = c.requires.held.operands; store_does = c.requires.held.store })))
    c.requires.in_time refl refl
