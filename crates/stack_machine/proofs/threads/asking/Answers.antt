use Rattle.std.proofs.Common.{subst, List}
use Rattle.std.specs.Prelude.{Err}
use Rattle.upc_values.specs.declared.scalar.Value.{Value}
use Rattle.thread_steps.specs.Library as pure
use Rattle.stack_code.specs.layer.Codes.{thread_of}
use Rattle.stack_machine.specs.code.Turns.{Came, state_seen}
use Rattle.stack_machine.proofs.Arrivals.{err_then}
use Rattle.stack_machine.proofs.threads.asking.Goals as goal

pub returns-in-Err-clause-does : goal.returns-in-Err-clause-does
returns-in-Err-clause-does c = λ there given calls before.
    err_then before _ c.in-Err.e _ _ _ _
    (subst (λ (args : List Value). Came before (pure.library (thread_of c.args.code.now c.args.runner.now.number c.args.runner.now.budget) c.args.call c.args.shape c.args.place args
    (state_seen before c.args.progress.now)) (Err c.in-Err.e) c.args.progress.now c.library.new.self) c.youngest.ensures
    (c.in-Err.ensures.does before))
