use Rattle.std.proofs.Common.{sym, subst}
use Rattle.std.specs.Prelude.{Err}
use Rattle.stack_code.specs.declared.instruction.CallWork.{CallWork}
use Rattle.stack_code.specs.layer.Codes.{thread_of}
use Rattle.stack_code.specs.layer.Steps.{called, top, rest}
use Rattle.stack_machine.specs.code.Tasks.{spot_at, task_seen}
use Rattle.stack_machine.specs.code.Turns.{Arrived, state_seen}
use Rattle.stack_machine.proofs.Advancing.{called_on, begun_on, received_on, returned_on, if_ok, if_both, call_inside}
use Rattle.stack_machine.proofs.Holding.{top_held, rest_held}
use Rattle.stack_machine.proofs.calls.Task.call_step.Goals as goal

pub returns-in-CallTo-clause-advances : goal.returns-in-CallTo-clause-advances
returns-in-CallTo-clause-advances c =
    if_both c.call.result c.call.ensures.comes c.call.ensures.in_time
    (λ e u. called_on c.args.code.now c.args.runner.now.budget c.in-CallTo.function c.in-CallTo.arguments (task_seen c.args.self.now) (task_seen c.call.new.self)
    c.requires.held c.requires.in_time e u)

pub returns-in-Begin-clause-does : goal.returns-in-Begin-clause-does
returns-in-Begin-clause-does c = λ before.
    subst (λ (w : CallWork). Arrived before (called (thread_of c.args.code.now c.args.runner.now.number c.args.runner.now.budget) w c.args.place (spot_at c.args.self.now) c.args.self.now.given.items
    c.args.self.now.operands c.args.self.now.calls (state_seen before c.args.self.now.progress)) c.begin.result c.args.self.now.progress c.begin.new.self.progress (task_seen c.begin.new.self)) (sym c.in-Begin.is)
    (c.begin.ensures.does (thread_of c.args.code.now c.args.runner.now.number c.args.runner.now.budget) before)

pub returns-in-Begin-clause-advances : goal.returns-in-Begin-clause-advances
returns-in-Begin-clause-advances c =
    let b = c.requires.begins c.in-Begin.function c.in-Begin.is in
    if_ok c.begin.result c.begin.ensures.comes
    (λ e. begun_on c.args.code.now c.args.runner.now.budget c.in-Begin.function (task_seen c.args.self.now) (task_seen c.begin.new.self)
    c.requires.held c.requires.in_time e b.0 b.1 (call_inside c.args.work.now c.args.self.now.place _ c.requires.lands))

pub returns-in-Receive-clause-advances : goal.returns-in-Receive-clause-advances
returns-in-Receive-clause-advances c =
    if_both c.receive.result c.receive.ensures.comes
    (c.receive.ensures.held c.args.code.now.threads c.args.code.now.shapes c.requires.held.store c.requires.held.given)
    (λ e s. received_on c.args.code.now c.args.runner.now.budget (task_seen c.args.self.now) (task_seen c.receive.new.self)
    c.requires.held c.requires.in_time s e (call_inside c.args.work.now c.args.self.now.place _ c.requires.lands))

pub returns-in-GiveBack-clause-does : goal.returns-in-GiveBack-clause-does
returns-in-GiveBack-clause-does c = λ before.
    subst (λ (w : CallWork). Arrived before (called (thread_of c.args.code.now c.args.runner.now.number c.args.runner.now.budget) w c.args.place (spot_at c.args.self.now) c.args.self.now.given.items
    c.args.self.now.operands c.args.self.now.calls (state_seen before c.args.self.now.progress)) c.finish.result c.args.self.now.progress c.finish.new.self.progress (task_seen c.finish.new.self)) (sym c.in-GiveBack.is)
    (c.finish.ensures.does (thread_of c.args.code.now c.args.runner.now.number c.args.runner.now.budget) before)

pub returns-in-GiveBack-clause-advances : goal.returns-in-GiveBack-clause-advances
returns-in-GiveBack-clause-advances c =
    if_ok c.finish.result c.finish.ensures.comes
    (λ r. returned_on c.args.code.now c.args.runner.now.budget c.in-GiveBack.blocks (task_seen c.args.self.now) (task_seen c.finish.new.self)
    (top c.args.self.now.operands) (rest c.args.self.now.operands) c.requires.held c.requires.in_time
    (top_held c.args.code.now.threads c.args.code.now.shapes c.args.self.now.operands c.requires.held.operands)
    (rest_held c.args.code.now.threads c.args.code.now.shapes c.args.self.now.operands c.requires.held.operands) r)

pub returns-in-Quit-clause-does : goal.returns-in-Quit-clause-does
returns-in-Quit-clause-does c = λ before.
    subst (λ (w : CallWork). Arrived before (called (thread_of c.args.code.now c.args.runner.now.number c.args.runner.now.budget) w c.args.place (spot_at c.args.self.now) c.args.self.now.given.items
    c.args.self.now.operands c.args.self.now.calls (state_seen before c.args.self.now.progress)) (Err c.quit.result) c.args.self.now.progress c.args.self.now.progress (task_seen c.args.self.now)) (sym c.in-Quit.is)
    (c.quit.ensures.does (thread_of c.args.code.now c.args.runner.now.number c.args.runner.now.budget) c.args.place before)
