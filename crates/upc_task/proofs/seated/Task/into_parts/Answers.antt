use Rattle.upc_task.proofs.seated.Task.into_parts.Goals as goal

pub returns-clause-strand : goal.returns-clause-strand
returns-clause-strand c = λ o p f h. c.into_strand.ensures o p f h.recorded
