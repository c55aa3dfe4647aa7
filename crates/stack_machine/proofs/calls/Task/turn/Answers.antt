use Rattle.std.proofs.Common.{[], sym, subst, Option}
use Rattle.stack_machine.specs.declared.calls.Task.{Task}
use Rattle.stack_machine.specs.declared.open_calls.OpenCall.{OpenCall}
use Rattle.stack_machine.specs.code.Calls.{HasLeft, the_call}
use Rattle.stack_machine.specs.code.Tasks.{task_seen}
use Rattle.stack_machine.specs.code.Walking.{HasCome}
use Rattle.stack_machine.proofs.Advancing.{if_ok}
use Rattle.stack_machine.proofs.Openings.{stepped_so, left_ahead}
use Rattle.stack_machine.proofs.calls.Task.turn.Goals as goal

pub returns-in-None-clause-goes : goal.returns-in-None-clause-goes
returns-in-None-clause-goes c = λ given s.
    let r = c.args.runner.now in
    subst (λ (o : Option OpenCall). HasCome c.args.code.now r.number r.budget given c.step.result (the_call o)
    c.step.new.self) (sym c.requires.closed)
    (stepped_so c.args.code.now r.number r.budget c.step.result c.args.self.now c.step.new.self given
    (c.step.ensures.does []) c.step.ensures.remains c.step.ensures.advances s)

pub returns-in-Ok-clause-advances : goal.returns-in-Ok-clause-advances
returns-in-Ok-clause-advances c =
    let code = c.args.code.now in
    let r = c.args.runner.now in
    if_ok c.go_inside.result c.go_inside.ensures.left
    (λ l. left_ahead code r.number r.budget c.args.self.now c.go_inside.new.self c.in-Some.next.arguments
    c.requires.in_time c.in-Some.ensures.lands
    (subst (λ (x : Task). HasLeft code.threads code.shapes (task_seen x) (task_seen c.go_inside.new.self))
    c.in-Ok.ensures.taken l))
