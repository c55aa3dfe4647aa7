use Rattle.std.proofs.Common.{sym}
use Rattle.stack_code.specs.layer.Codes.{thread_of}
use Rattle.stack_machine.proofs.Accessing.{load_fault, load_err, load_ok}
use Rattle.stack_machine.proofs.progress.Progress.load_shared.Goals as goal

pub returns-in-Err-clause-does : goal.returns-in-Err-clause-does
returns-in-Err-clause-does c = λ thread budget before.
    rw c.fault.ensures (load_fault (thread_of c.args.code.now thread budget) c.args.access.kind c.args.access.strict
    c.args.place c.args.p.now before c.args.self.now c.in-Err.error
    (c.in-Err.ensures (thread_of c.args.code.now thread budget) (sym c.threads.ensures.value) (sym c.shapes.ensures.value)))

pub returns-in-Err-read-clause-does : goal.returns-in-Err-read-clause-does
returns-in-Err-read-clause-does c = λ thread budget before.
    load_err (thread_of c.args.code.now thread budget) c.args.access.kind c.args.access.strict
    c.args.place c.args.p.now before c.args.self.now c.in-Ok.loc c.in-Err-read.e c.read.new.self
    (c.in-Ok.ensures (thread_of c.args.code.now thread budget) (sym c.threads.ensures.value) (sym c.shapes.ensures.value))
    (c.in-Err-read.ensures.does thread budget before)

pub returns-in-Ok-read-clause-does : goal.returns-in-Ok-read-clause-does
returns-in-Ok-read-clause-does c = λ thread budget before.
    load_ok (thread_of c.args.code.now thread budget) c.args.access.kind c.args.access.strict
    c.args.place c.args.p.now before c.args.self.now c.in-Ok.loc c.in-Ok-read.v c.read.new.self
    (c.in-Ok.ensures (thread_of c.args.code.now thread budget) (sym c.threads.ensures.value) (sym c.shapes.ensures.value))
    (c.in-Ok-read.ensures.does thread budget before)
