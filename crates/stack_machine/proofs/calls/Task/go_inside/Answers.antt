use Rattle.stack_machine.specs.code.Tasks.{task_seen}
use Rattle.stack_machine.proofs.Openings.{over_so, halted_so}
use Rattle.stack_machine.proofs.calls.Task.go_inside.Goals as goal

pub returns-in_ok-leave-in-Ok-clause-goes : goal.returns-in_ok-leave-in-Ok-clause-goes
returns-in_ok-leave-in-Ok-clause-goes c = λ given s.
    let r = c.args.runner.now in
    over_so c.args.code.now r.number r.budget given c.args.call.place c.args.self.now c.leave.new.self c.walk_on.new.self
    (c.in-Ok.ensures.goes r.number r.budget given (task_seen c.args.self.now) s) c.in_ok-leave-in-Ok.ensures

pub returns-in-Err-clause-goes : goal.returns-in-Err-clause-goes
returns-in-Err-clause-goes c = λ given s.
    let r = c.args.runner.now in
    halted_so c.args.code.now r.number r.budget given c.in-Err.halt
    (record { walk = c.walk_on.new.walk; place = c.args.call.place }) c.args.self.now c.walk_on.new.self
    (c.in-Err.ensures.goes r.number r.budget given (task_seen c.args.self.now) s)
