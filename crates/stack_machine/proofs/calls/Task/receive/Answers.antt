use Rattle.std.proofs.Common.{List, sym, subst}
use Rattle.std.specs.Prelude.{Err}
use Rattle.upc_values.specs.declared.scalar.Value.{Value}
use Rattle.stack_code.specs.layer.Steps.{received}
use Rattle.stack_machine.specs.code.Kept.{AreHeld}
use Rattle.stack_machine.specs.code.Turns.{Came, state_seen}
use Rattle.stack_machine.proofs.Arrivals.{err_then}
use Rattle.stack_machine.proofs.calls.Task.receive.Goals as goal

pub returns-in-Err-clause-does : goal.returns-in-Err-clause-does
returns-in-Err-clause-does c = λ τ before.
    err_then before _ c.in-Err.e _ _ _ _
    (subst (λ (l : List Value). Came before (received τ c.args.place 0 c.args.cells.now l (state_seen before c.args.self.now.progress))
    (Err c.in-Err.e) c.args.self.now.progress c.receive.new.self) c.deref.ensures.value (c.in-Err.ensures.does τ before))

pub returns-in-Ok-clause-held : goal.returns-in-Ok-clause-held
returns-in-Ok-clause-held c = λ threads shapes h k.
    c.in-Ok.ensures.held threads shapes h (subst (AreHeld threads shapes) (sym c.deref.ensures.value) k)
