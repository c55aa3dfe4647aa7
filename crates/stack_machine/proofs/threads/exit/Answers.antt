use Rattle.std.proofs.Common.{ap, ◌∙◌, subst, rules, w32}
use Rattle.std.specs.Prelude.{Err, ℤ}
use Rattle.std.proofs.Math.Facts.{to_z-of_z}
use Rattle.upc_values.specs.declared.scalar.Value.{Value}
use Rattle.thread_steps.specs.Actions as pure
use Rattle.thread_steps.specs.Library.{library}
use Rattle.thread_steps.specs.layer.Parts.{first_number}
use Rattle.stack_code.specs.layer.Codes.{thread_of}
use Rattle.stack_machine.specs.code.Turns.{Came, state_seen}
use Rattle.stack_machine.proofs.Arrivals.{err_then}
use Rattle.stack_machine.proofs.threads.exit.Goals as goal

pub returns-in-Some-clause-does : goal.returns-in-Some-clause-does
unfolding library
returns-in-Some-clause-does c = λ there given calls before.
    let τ = thread_of c.args.code.now c.args.runner.now.number c.args.runner.now.budget in
    err_then before _ c.exit.result _ _ _ _
    (subst (λ (v : ℤ). Came before (pure.exit τ {A = Value} v (state_seen before c.args.progress.now)) (Err c.exit.result)
    c.args.progress.now c.exit.new.self) (to_z-of_z {w = w32} {z = c.in-Some.value} (search rules) ∙ c.in-Some.ensures ∙ ap first_number c.youngest.ensures)
    (c.exit.ensures τ before))
