use Rattle.std.proofs.Common.{refl, sym, ap, ◌∙◌, subst, drop, ◌∷◌, List}
use Rattle.upc_values.specs.declared.scalar.Value.{Value}
use Rattle.thread_steps.specs.layer.Ranges.{IsHeld}
use Rattle.thread_steps.specs.States.{Res}
use Rattle.thread_steps.specs.layer.Parts.{private_shapes}
use Rattle.stack_code.specs.layer.Codes.{thread_of}
use Rattle.stack_code.specs.layer.Steps.{At, conf_of, youngest}
use Rattle.stack_machine.specs.code.Kept.{AreHeld}
use Rattle.stack_machine.specs.code.Turns.{state_seen, body_seen}
use Rattle.stack_machine.proofs.Arrivals.{faults, reaches}
use Rattle.stack_machine.proofs.Calling.{err_by, ok_by, if_ok_at}
use Rattle.stack_machine.proofs.Holding.{drop_held}
use Rattle.stack_machine.proofs.threads.library.Goals as goal

pub returns-in-Err-clause-does : goal.returns-in-Err-clause-does
returns-in-Err-clause-does c = λ there given calls before.
    rw c.fault.ensures
    (faults before _ c.in-Err.error c.args.place c.args.progress.now c.args.progress.now
    (body_seen there given c.args.operands.now calls c.args.progress.now) (state_seen before c.args.progress.now)
    (ap (λ (r : Res Value). conf_of r (λ v. At there given (v ∷ drop c.args.arguments c.args.operands.now) calls))
    (err_by (thread_of c.args.code.now c.args.runner.now.number c.args.runner.now.budget) c.args.place (state_seen before c.args.progress.now) c.args.call c.args.shape (youngest c.args.arguments c.args.operands.now) c.threads.result c.youngest.result.now c.in-Some.answer c.in-Err.error c.in-Err.is c.threads.ensures.value c.youngest.ensures (c.in-Some.ensures.value c.args.code.now.shapes c.args.runner.now.number (private_shapes (state_seen before c.args.progress.now)) c.args.shape))))

pub returns-in_ok-push-in-Ok-clause-does : goal.returns-in_ok-push-in-Ok-clause-does
returns-in_ok-push-in-Ok-clause-does c = λ there given calls before.
    reaches _ _ c.args.progress.now.reply before
    (ap (λ (r : Res Value). conf_of r (λ v. At there given (v ∷ drop c.args.arguments c.args.operands.now) calls))
    (ok_by (thread_of c.args.code.now c.args.runner.now.number c.args.runner.now.budget) c.args.place (state_seen before c.args.progress.now) c.args.call c.args.shape (youngest c.args.arguments c.args.operands.now) c.threads.result c.youngest.result.now c.in-Some.answer c.in-Ok.v c.in-Ok.is c.threads.ensures.value c.youngest.ensures (c.in-Some.ensures.value c.args.code.now.shapes c.args.runner.now.number (private_shapes (state_seen before c.args.progress.now)) c.args.shape))
    ∙ ap (λ (l : List Value). At there given l calls (state_seen before c.args.progress.now))
    (ap (λ (l : List Value). c.in-Ok.v ∷ l) (sym c.drop_youngest.ensures) ∙ sym c.in_ok-push-in-Ok.ensures))

pub returns-in_ok-push-in-Ok-clause-kept : goal.returns-in_ok-push-in-Ok-clause-kept
returns-in_ok-push-in-Ok-clause-kept c =
    let h = rw c.threads.ensures.value at (c.in-Some.ensures.held c.args.code.now.shapes) in
    record {
      ticks = refl;
      held = record {
        operands_are = subst (λ (l : List Value). AreHeld c.args.code.now.threads c.args.code.now.shapes l)
            (sym (c.in_ok-push-in-Ok.ensures ∙ ap (λ (l : List Value). c.in-Ok.v ∷ l) c.drop_youngest.ensures)) (
              if_ok_at c.in-Some.answer c.in-Ok.v (IsHeld c.args.code.now.threads c.args.code.now.shapes) c.in-Ok.is h,
              drop_held c.args.code.now.threads c.args.code.now.shapes c.args.arguments c.args.operands.now c.requires.held.operands_are,
            );
        store_does = c.requires.held.store_does;
      };
    }
