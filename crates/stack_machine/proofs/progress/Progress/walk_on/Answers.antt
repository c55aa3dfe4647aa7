use Rattle.stack_machine.proofs.progress.Progress.walk_on.Goals as goal

pub returns-in-Ok-true-clause-goes : goal.returns-in-Ok-true-clause-goes
returns-in-Ok-true-clause-goes c = λ thread budget given b h.
    (rw c.in-Ok-true.field-0-test at c.in-Ok-true.ensures.goes) thread budget given b
    (c.loop-halt.invariant.goes thread budget given b h)
