use Rattle.std.proofs.Common.{subst}
use Rattle.std.specs.Prelude.{Err}
use Rattle.upc_values.specs.declared.scalar.Value.{Value}
use Rattle.thread_steps.specs.Accesses as pure
use Rattle.stack_code.specs.layer.Codes.{thread_of}
use Rattle.stack_code.specs.layer.Steps.{second}
use Rattle.stack_machine.specs.code.Turns.{Came, state_seen}
use Rattle.stack_machine.proofs.Arrivals.{err_then}
use Rattle.stack_machine.proofs.objects.save.Goals as goal

pub returns-in-Err-clause-does : goal.returns-in-Err-clause-does
returns-in-Err-clause-does c = λ there given calls before.
    err_then before _ c.in-Err.e _ _ _ _
    (subst (λ (v : Value). Came before (pure.save (thread_of c.args.code.now c.args.runner.now.number c.args.runner.now.budget) c.args.access.kind c.args.access.strict c.args.place
    (second c.args.operands.now) v (state_seen before c.args.progress.now)) (Err c.in-Err.e) c.args.progress.now c.save.new.self) c.top-v.ensures
    (subst (λ (p : Value). Came before (pure.save (thread_of c.args.code.now c.args.runner.now.number c.args.runner.now.budget) c.args.access.kind c.args.access.strict c.args.place
    p c.top-v.result.now (state_seen before c.args.progress.now)) (Err c.in-Err.e) c.args.progress.now c.save.new.self) c.second.ensures
    (c.in-Err.ensures.does c.args.runner.now.number c.args.runner.now.budget before)))
