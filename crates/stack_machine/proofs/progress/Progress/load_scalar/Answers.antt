use Rattle.std.proofs.Common.{subst, refl}
use Rattle.upc_values.specs.declared.scalar.Value.{Value}
use Rattle.thread_steps.specs.States.{Doing}
use Rattle.stack_code.specs.layer.Codes.{thread_of}
use Rattle.std.specs.Prelude.{Err}
use Rattle.block_layout.specs.declared.run_error.TheConstants.{NULL_ACCESS}
use Rattle.stack_machine.specs.declared.wish.Halt.TheVariants.{Stops}
use Rattle.stack_machine.specs.declared.wish.Stop.TheVariants.{Fault}
use Rattle.stack_machine.specs.code.Turns.{Came, state_seen}
use Rattle.stack_machine.proofs.Accessing.{load_shared_at, load_null_at}
use Rattle.stack_machine.proofs.progress.Progress.load_scalar.Goals as goal

pub returns-in-Shared-clause-does : goal.returns-in-Shared-clause-does
returns-in-Shared-clause-does c = λ thread budget before.
    subst (λ (m : Doing Value). Came before (m (state_seen before c.args.self.now)) c.load_shared.result c.args.self.now c.load_shared.new.self)
    (load_shared_at (thread_of c.args.code.now thread budget) c.args.access.kind c.args.access.strict c.args.place c.args.p c.in-Shared.p c.in-Shared.is)
    (c.load_shared.ensures.does thread budget before)

pub returns-in_default-clause-does : goal.returns-in_default-clause-does
returns-in_default-clause-does c = λ thread budget before.
    rw c.fault.ensures (subst (λ (m : Doing Value). Came before (m (state_seen before c.args.self.now)) (Err (Stops (Fault NULL_ACCESS c.args.place) c.args.self.now.ticks))
    c.args.self.now c.args.self.now)
    (load_null_at (thread_of c.args.code.now thread budget) c.args.access.kind c.args.access.strict c.args.place c.args.p c.in_default.not-Shared) (refl, refl))
