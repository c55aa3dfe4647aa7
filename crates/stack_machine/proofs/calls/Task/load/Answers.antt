use Rattle.std.proofs.Common.{refl}
use Rattle.stack_code.specs.declared.instruction.ObjectWork.TheVariants as objects
use Rattle.stack_code.specs.declared.instruction.Operation.TheVariants as operation
use Rattle.stack_code.specs.layer.Codes.{thread_of}
use Rattle.stack_code.specs.layer.Steps.{At, further, top}
use Rattle.stack_machine.specs.code.Tasks.{spot_at}
use Rattle.stack_machine.specs.code.Turns.{state_seen}
use Rattle.stack_machine.proofs.Putting.{load_done, holds_held, put_does, put_on}
use Rattle.stack_machine.proofs.calls.Task.load.Goals as goal

pub returns-in-Some-clause-does : goal.returns-in-Some-clause-does
returns-in-Some-clause-does c = λ d at.
    let τ = thread_of c.args.code.now c.args.runner.now.number c.args.runner.now.budget in
    let t = c.args.self.now in
    put_does c.args.code.now c.args.runner.now (operation.Object (objects.Load c.args.access)) at t _ 1
    c.in-Some.v t.progress.store (c.put.ensures.does d)
    (λ before. load_done τ at t.operands _ (λ vs. At (further 1 (spot_at t)) t.given.items vs t.calls)
    (state_seen before t.progress) c.args.access (top t.operands) c.in-Some.v refl c.in-Some.ensures refl)

pub returns-in-Some-clause-advances : goal.returns-in-Some-clause-advances
returns-in-Some-clause-advances c = λ d.
    let t = c.args.self.now in
    put_on c.args.code.now c.args.runner.now.budget 1 t _ c.in-Some.v t.progress.store c.requires.held c.requires.in_time
    (holds_held c.args.code.now.threads c.args.code.now.shapes c.args.access t.progress.store (top t.operands) c.in-Some.v
    c.requires.held.store c.in-Some.ensures)
    c.requires.held.store (c.put.ensures.does d) c.requires.lands
