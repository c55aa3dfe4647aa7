use Rattle.std.proofs.Common.{sym}
use Rattle.stack_machine.proofs.Weights.{begins_other}
use Rattle.stack_machine.specs.code.Tasks.{task_seen}
use Rattle.stack_machine.proofs.Advancing.{returned_on, if_ok}
use Rattle.stack_machine.proofs.Holding.{zero_held}
use Rattle.stack_machine.proofs.calls.Task.step.Goals as goal

pub returns-in-None-clause-advances : goal.returns-in-None-clause-advances
returns-in-None-clause-advances c =
    if_ok c.give_back.result c.give_back.ensures.comes
    (λ r. returned_on c.args.code.now c.args.runner.now.budget 0 (task_seen c.args.self.now) (task_seen c.give_back.new.self) _ c.args.self.now.operands
    c.requires.held c.requires.in_time (zero_held c.args.code.now.threads c.args.code.now.shapes) c.requires.held.operands r)

pub work-requires-clause-begins : goal.work-requires-clause-begins
work-requires-clause-begins c = λ f e.
    begins_other c.args.code.now.functions c.args.self.now.function c.args.self.now.place c.in-Some.instr.now f
    c.keep.ensures.begins (sym c.in-Some.ensures.value) e
