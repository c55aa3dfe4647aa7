use Rattle.std.proofs.Common.{rules, ◌≡◌, pos, true, false, refl, sym, subst}
use Rattle.upc_values.specs.declared.scalar.Value.{Value}
use Rattle.thread_steps.specs.Library.{is_formed}
use Rattle.thread_steps.specs.States.{Res}
use Rattle.thread_steps.specs.Values.{number}
use Rattle.thread_values.specs.layer.Asking.{asks_once}
use Rattle.thread_values.proofs.Asking.{unformed}
use Rattle.stack_code.specs.layer.Codes.{thread_of}
use Rattle.stack_machine.specs.code.Turns.{Gave, state_seen}
use Rattle.stack_machine.proofs.Asking.{goes, step_does}
use Rattle.stack_machine.proofs.progress.Progress.library.Goals as goal

pub returns-then-not-branch-clause-does : goal.returns-then-not-branch-clause-does
returns-then-not-branch-clause-does c before =
    let τ = thread_of c.args.code.now c.args.runner.now.number c.args.runner.now.budget in
    let once : asks_once c.args.call ≡ true = search rules in
    let off : is_formed c.args.code.now.shapes c.args.call c.args.shape c.args.args.now ≡ false = search rules in
    subst (λ (r : Res Value). Gave r (number (pos 0)) c.args.self.now)
    (sym (unformed τ c.args.place (state_seen before c.args.self.now) c.args.call c.args.shape c.args.args.now once off))
    (refl, refl)

pub returns-else-not-branch-clause-does : goal.returns-else-not-branch-clause-does
returns-else-not-branch-clause-does c before =
    let τ = thread_of c.args.code.now c.args.runner.now.number c.args.runner.now.budget in
    let once : asks_once c.args.call ≡ true = search rules in
    let on : is_formed c.args.code.now.shapes c.args.call c.args.shape c.args.args.now ≡ true = search rules in
    goes τ c.args.call c.args.shape c.args.args.now c.args.place before c.args.self.now c.met_step.new.self
    c.met_step.result c.in-Some.step c.is_collective.result once on c.is_collective.ensures
    (step_does τ c.args.call c.args.shape c.args.args.now c.in_ok-step.step c.in-Some.step c.shapes.result.now c.in-Some.is
    c.shapes.ensures.value (c.in_ok-step.ensures.does c.args.code.now.threads))
    (c.met_step.ensures.does c.args.runner.now.number c.args.runner.now.budget before)
