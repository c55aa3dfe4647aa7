use Rattle.stack_code.specs.layer.Codes.{thread_of}
use Rattle.stack_machine.proofs.Arrivals.{err_then}
use Rattle.stack_machine.proofs.threads.fence.Goals as goal

pub returns-in-Err-clause-does : goal.returns-in-Err-clause-does
returns-in-Err-clause-does c = λ there given calls before.
    err_then before _ c.in-Err.e _ _ _ _ (c.in-Err.ensures.does (thread_of c.args.code.now c.args.runner.now.number c.args.runner.now.budget) before)
