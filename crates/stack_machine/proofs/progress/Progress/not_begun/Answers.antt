use Rattle.std.proofs.Common.{rules, ◌≡◌, true, List, sym, ◌∙◌, subst}
use Rattle.std.specs.Prelude.{Err}
use Rattle.upc_values.specs.Calls.{call_of}
use Rattle.upc_values.specs.declared.scalar.Scalar.{Scalar}
use Rattle.upc_values.specs.declared.scalar.Value.{Value}
use Rattle.collectives.specs.layer.Arguments.{copies_or_reduces}
use Rattle.stack_code.specs.layer.Codes.{thread_of}
use Rattle.thread_values.specs.layer.Collectives.{scalars_met}
use Rattle.stack_machine.specs.code.Calls.{UnlessWant}
use Rattle.stack_machine.proofs.Asking.{unmet}
use Rattle.stack_machine.proofs.progress.Progress.not_begun.Goals as goal

pub returns-in-Ok : goal.returns-in-Ok
returns-in-Ok c = λ before.
    let τ = thread_of c.args.code.now c.args.runner.now.number c.args.runner.now.budget in
    let same : c.as_slice.result.now ≡ scalars_met c.args.call c.args.args.now = search rules in
    unmet τ c.args.place before c.args.self.now c.args.call c.args.shape c.args.args.now c.in-Some.number c.not_met.result
    (sym c.collective_number.ensures ∙ c.in-Some.is)
    (subst (λ (l : List Scalar). UnlessWant {A = Value} (Err c.not_met.result)
    (copies_or_reduces (call_of c.in-Some.number l) ≡ true)) same c.not_met.ensures.formed)
    (c.not_met.ensures.does τ before)
