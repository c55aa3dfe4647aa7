use Rattle.std.proofs.Common.{[], ◌∷◌, drop, refl}
use Rattle.std.specs.Prelude.{Err}
use Rattle.thread_steps.specs.Actions.{tick}
use Rattle.stack_code.specs.layer.Steps.{begun, youngest, further}
use Rattle.stack_machine.specs.code.Tasks.{spot_at, task_seen}
use Rattle.stack_machine.specs.code.Turns.{Arrived, state_seen}
use Rattle.stack_machine.proofs.Arrivals.{err_then, ok_then, firm_then, still}
use Rattle.stack_machine.proofs.calls.Task.call.Goals as goal

pub returns-in-Err-clause-does : goal.returns-in-Err-clause-does
returns-in-Err-clause-does c = λ τ s before. err_then before _ c.in-Err.e _ _ _ _ (c.in-Err.ensures.does τ s before)

pub returns-in-Err-clause-remains : goal.returns-in-Err-clause-remains
returns-in-Err-clause-remains c =
    still [] _ c.in-Err.e c.args.self.now c.tick.new.self
    (c.in-Err.ensures.does (record { number = 0; threads = 0; budget = c.args.budget; shapes = [] }) refl [])

pub returns-in-Err-begin_call-clause-does : goal.returns-in-Err-begin_call-clause-does
returns-in-Err-begin_call-clause-does c = λ τ s before.
    ok_then before (tick τ (state_seen before c.args.self.now.progress)) c.in-Ok.field-0 c.args.self.now.progress
    c.tick.new.self (λ d. Arrived before d (Err c.in-Err-begin_call.e) c.args.self.now.progress c.begin_call.new.self (task_seen (record c.args.self.now { progress = c.begin_call.new.self }))) (λ _. begun c.args.function c.args.place (youngest c.args.arguments c.args.self.now.operands) (drop c.args.arguments c.args.self.now.operands) (further 1 (spot_at c.args.self.now) ∷ c.args.self.now.calls))
    (c.in-Ok.ensures.does τ s before)
    (λ did. firm_then before did _ c.in-Err-begin_call.e c.args.self.now.progress c.tick.new.self
    c.begin_call.new.self _ _ c.in-Err-begin_call.ensures.firm (c.in-Err-begin_call.ensures.does did))
