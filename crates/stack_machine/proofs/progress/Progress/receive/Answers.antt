use Rattle.std.proofs.Common.{◌<◌, ◌∙◌, ap, length, sym, subst, arith}
use Rattle.std.specs.Prelude.{Err}
use Rattle.std.proofs.lemmas.List.{get_or_default}
use Rattle.thread_steps.specs.layer.Ranges.{IsHeld}
use Rattle.thread_steps.specs.States.{Res}
use Rattle.upc_values.proofs.Lists.{each-at}
use Rattle.stack_machine.specs.declared.progress.Progress.{Progress}
use Rattle.stack_machine.specs.code.Turns.{Came, state_seen}
use Rattle.stack_machine.proofs.Parameters.{received_more, received_err}
use Rattle.stack_machine.proofs.progress.Progress.receive.Goals as goal

pub returns-in-Err-clause-does : goal.returns-in-Err-clause-does
returns-in-Err-clause-does c = λ τ before.
    let m : c.loop-i.i < length c.args.cells.now = omega arith in
    let n : c.loop-i.i < length c.args.given.now = omega arith in
    subst (λ (r : Res (Unit {0})). Came before r (Err c.in-Err.e) c.args.self.now c.receive_one.new.self)
    (sym (c.loop-i.invariant.run τ before))
    (received_err τ c.args.place c.loop-i.i c.args.cells.now c.args.given.now _ _ before c.loop-i.self c.receive_one.new.self
    c.args.self.now c.in-Err.e m n (get_or_default _ _ _ _ m) (get_or_default _ _ _ _ n) c.in-Err.ensures.firm
    (c.in-Err.ensures.does τ before))

pub loop-i-preserved : goal.loop-i-preserved
loop-i-preserved c =
    let m : c.loop-i.i < length c.args.cells.now = omega arith in
    let n : c.loop-i.i < length c.args.given.now = omega arith in
    record {
      run = λ τ before.
          c.loop-i.invariant.run τ before
          ∙ received_more τ c.args.place c.loop-i.i c.args.cells.now c.args.given.now _ _ (state_seen before c.loop-i.self)
          (state_seen before c.receive_one.new.self) m n (get_or_default _ _ _ _ m) (get_or_default _ _ _ _ n)
          (c.in-Ok.ensures.exact τ before);
      kept = c.in-Ok.ensures.kept
          ∙ ap (λ (p : Progress). record p { store = c.receive_one.new.self.store }) c.loop-i.invariant.kept;
      held = λ threads shapes h k.
          c.in-Ok.ensures.held threads shapes (c.loop-i.invariant.held threads shapes h k)
          (each-at (IsHeld threads shapes) c.args.given.now c.loop-i.i _ k n);
    }
