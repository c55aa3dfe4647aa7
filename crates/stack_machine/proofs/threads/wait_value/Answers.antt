use Rattle.std.proofs.Common.{subst}
use Rattle.std.specs.Prelude.{Err}
use Rattle.upc_values.specs.declared.scalar.Mark.{Mark}
use Rattle.thread_steps.specs.Actions.{wait}
use Rattle.stack_code.specs.layer.Codes.{thread_of}
use Rattle.stack_machine.specs.code.Turns.{Came, state_seen}
use Rattle.stack_machine.proofs.Arrivals.{err_then}
use Rattle.stack_machine.proofs.threads.wait_value.Goals as goal

pub returns-in-Err-clause-does : goal.returns-in-Err-clause-does
returns-in-Err-clause-does c = λ there given calls before.
    err_then before _ c.in-Err.e _ _ _ _
    (subst (λ (m : Mark). Came before (wait (thread_of c.args.code.now c.args.runner.now.number c.args.runner.now.budget) c.args.place m (state_seen before c.args.progress.now)) (Err c.in-Err.e)
    c.args.progress.now c.wait.new.self) c.mark_on.ensures (c.in-Err.ensures.does (thread_of c.args.code.now c.args.runner.now.number c.args.runner.now.budget) before))
