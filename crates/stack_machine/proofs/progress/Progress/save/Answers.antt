use Rattle.std.proofs.Common.{subst}
use Rattle.thread_steps.specs.States.{Doing}
use Rattle.stack_code.specs.layer.Codes.{thread_of}
use Rattle.stack_machine.specs.code.Turns.{Came, state_seen}
use Rattle.stack_machine.proofs.Accessing.{save_is}
use Rattle.stack_machine.proofs.progress.Progress.save.Goals as goal

pub returns-in-Scalar-clause-does : goal.returns-in-Scalar-clause-does
returns-in-Scalar-clause-does c = λ thread budget before.
    subst (λ (m : Doing (Unit {0})). Came before (m (state_seen before c.args.self.now)) c.save_scalar.result c.args.self.now c.save_scalar.new.self)
    (save_is (thread_of c.args.code.now thread budget) c.args.access.kind c.args.access.strict c.args.place c.args.p _ c.args.v c.in-Scalar.is)
    (c.save_scalar.ensures.does thread budget before)

pub returns-in-Local-clause-does : goal.returns-in-Local-clause-does
returns-in-Local-clause-does c = λ thread budget before.
    subst (λ (m : Doing (Unit {0})). Came before (m (state_seen before c.args.self.now)) c.save_local.result c.args.self.now c.save_local.new.self)
    (save_is (thread_of c.args.code.now thread budget) c.args.access.kind c.args.access.strict c.args.place c.args.p _ c.args.v c.in-Local.is)
    (c.save_local.ensures.does thread budget before)
