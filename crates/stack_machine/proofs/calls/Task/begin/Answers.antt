use Rattle.stack_machine.proofs.Arrivals.{err_then}
use Rattle.stack_machine.proofs.calls.Task.begin.Goals as goal

pub returns-in-Err-clause-does : goal.returns-in-Err-clause-does
returns-in-Err-clause-does c = λ τ before. err_then before _ c.in-Err.e _ _ _ _ (c.in-Err.ensures.does before)
