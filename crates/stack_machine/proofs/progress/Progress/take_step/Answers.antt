use Rattle.stack_machine.proofs.progress.Progress.take_step.Goals as goal

pub returns-in-Asks-clause-does : goal.returns-in-Asks-clause-does
returns-in-Asks-clause-does c thread budget before = rw c.in-Asks.is (c.ask.ensures.does thread budget before)
