use Rattle.std.proofs.Common.{rules, refl, subst}
use Rattle.upc_values.specs.declared.scalar.Value.{Value}
use Rattle.stack_code.specs.declared.instruction.ObjectWork.TheVariants as objects
use Rattle.stack_code.specs.declared.instruction.Operation.TheVariants as operation
use Rattle.stack_code.specs.layer.Codes.{thread_of}
use Rattle.stack_code.specs.layer.Steps.{At, further, second, top}
use Rattle.stack_machine_values.specs.layer.Quick.{Keeps}
use Rattle.stack_machine.specs.code.Tasks.{spot_at}
use Rattle.stack_machine.specs.code.Turns.{state_seen}
use Rattle.stack_machine.proofs.Holding.{top_held}
use Rattle.stack_machine.proofs.Putting.{save_done, keeps_held, put_does, put_on}
use Rattle.stack_machine.proofs.calls.Task.save.Goals as goal

pub returns-clause-does : goal.returns-clause-does
returns-clause-does c = λ d at.
    let τ = thread_of c.args.code.now c.args.runner.now.number c.args.runner.now.budget in
    let t = c.args.self.now in
    let keeps : Keeps c.args.access.kind (second t.operands) c.top-v.result.now t.progress.store c.keep_value.new.store = search rules in
    let kept : Keeps c.args.access.kind (second t.operands) (top t.operands) t.progress.store c.keep_value.new.store =
    subst (λ (v : Value). Keeps c.args.access.kind (second t.operands) v t.progress.store c.keep_value.new.store) c.top-v.ensures keeps in
    put_does c.args.code.now c.args.runner.now (operation.Object (objects.Save c.args.access)) at t _ 2
    (top t.operands) c.keep_value.new.store c.go_behind.ensures
    (λ before. save_done τ at t.operands _ (λ vs. At (further 1 (spot_at t)) t.given.items vs t.calls)
    (state_seen before t.progress) c.args.access (second t.operands) c.keep_value.new.store refl kept refl)

pub returns-clause-advances : goal.returns-clause-advances
returns-clause-advances c = λ d.
    let t = c.args.self.now in
    let keeps : Keeps c.args.access.kind (second t.operands) c.top-v.result.now t.progress.store c.keep_value.new.store = search rules in
    let kept : Keeps c.args.access.kind (second t.operands) (top t.operands) t.progress.store c.keep_value.new.store =
    subst (λ (v : Value). Keeps c.args.access.kind (second t.operands) v t.progress.store c.keep_value.new.store) c.top-v.ensures keeps in
    let held = top_held c.args.code.now.threads c.args.code.now.shapes t.operands c.requires.held.operands in
    put_on c.args.code.now c.args.runner.now.budget 2 t _ (top t.operands) c.keep_value.new.store c.requires.held
    c.requires.in_time held
    (keeps_held c.args.code.now.threads c.args.code.now.shapes c.args.access (second t.operands) (top t.operands)
    t.progress.store c.keep_value.new.store c.requires.held.store held kept)
    c.go_behind.ensures c.requires.lands
