use Rattle.std.proofs.Common.{sym, ap, ◌∙◌}
use Rattle.thread_steps.specs.Values.{kept_scalar}
use Rattle.stack_code.specs.layer.Codes.{thread_of}
use Rattle.stack_machine.proofs.Accessing.{save_fault, save_by}
use Rattle.stack_machine.proofs.progress.Progress.save_shared.Goals as goal

pub returns-in-Err-clause-does : goal.returns-in-Err-clause-does
returns-in-Err-clause-does c = λ thread budget before.
    rw c.fault.ensures (save_fault (thread_of c.args.code.now thread budget) c.args.access.kind c.args.access.strict
    c.args.place c.args.p.now before c.args.self.now c.args.v c.in-Err.error
    (c.in-Err.ensures (thread_of c.args.code.now thread budget) (sym c.threads.ensures.value) (sym c.shapes.ensures.value)))

pub returns-in-Ok-clause-does : goal.returns-in-Ok-clause-does
returns-in-Ok-clause-does c = λ thread budget before.
    save_by (thread_of c.args.code.now thread budget) c.args.access.kind c.args.access.strict
    c.args.place c.args.p.now before c.args.self.now c.args.v c.in-Ok.loc c.kept_scalar.result c.write.result c.write.new.self
    (c.in-Ok.ensures (thread_of c.args.code.now thread budget) (sym c.threads.ensures.value) (sym c.shapes.ensures.value))
    (c.kept_scalar.ensures.value ∙ ap (kept_scalar c.args.access.kind) c.scalar_of.ensures.value)
    (c.write.ensures.does (thread_of c.args.code.now thread budget) before)
