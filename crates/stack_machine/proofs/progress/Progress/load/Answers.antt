use Rattle.std.proofs.Common.{subst}
use Rattle.upc_values.specs.declared.scalar.Value.{Value}
use Rattle.thread_steps.specs.States.{Doing}
use Rattle.stack_code.specs.layer.Codes.{thread_of}
use Rattle.stack_machine.specs.code.Turns.{Came, state_seen}
use Rattle.stack_machine.proofs.Accessing.{load_is}
use Rattle.stack_machine.proofs.progress.Progress.load.Goals as goal

pub returns-in-Scalar-clause-does : goal.returns-in-Scalar-clause-does
returns-in-Scalar-clause-does c = λ thread budget before.
    subst (λ (m : Doing Value). Came before (m (state_seen before c.args.self.now)) c.load_scalar.result c.args.self.now c.load_scalar.new.self)
    (load_is (thread_of c.args.code.now thread budget) c.args.access.kind c.args.access.strict c.args.place c.args.p _ c.in-Scalar.is)
    (c.load_scalar.ensures.does thread budget before)

pub returns-in-Local-clause-does : goal.returns-in-Local-clause-does
returns-in-Local-clause-does c = λ thread budget before.
    subst (λ (m : Doing Value). Came before (m (state_seen before c.args.self.now)) c.load_local.result c.args.self.now c.load_local.new.self)
    (load_is (thread_of c.args.code.now thread budget) c.args.access.kind c.args.access.strict c.args.place c.args.p _ c.in-Local.is)
    (c.load_local.ensures.does thread budget before)
