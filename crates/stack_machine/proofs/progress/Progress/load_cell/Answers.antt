use Rattle.std.proofs.Common.{◌≡◌, sym, ◌∙◌, subst}
use Rattle.std.specs.Prelude.{Ok, Err}
use Rattle.upc_values.specs.declared.scalar.Scalar.{Scalar}
use Rattle.upc_values.specs.declared.action.Reply.TheVariants as reply
use Rattle.upc_values.specs.Expansion.{after_reply}
use Rattle.upc_values.specs.LibraryCalls.{gives_zero}
use Rattle.private_store.specs.Cells.{loaded}
use Rattle.stack_machine.specs.layer.Machine.{listed}
use Rattle.stack_machine.specs.code.Calls.{left_of}
use Rattle.stack_machine.specs.code.Inside.{StandsInside}
use Rattle.stack_machine.specs.code.Walking.{body_with}
use Rattle.stack_machine.proofs.Answering.{load_goes, load_fails, fails_so}
use Rattle.stack_machine.proofs.Holding.{loaded_held}
use Rattle.stack_machine.proofs.progress.Progress.load_cell.Goals as goal

pub returns-in-Err : goal.returns-in-Err
returns-in-Err c =
    let code = c.args.code.now in
    let p = c.args.self.now in
    let x = left_of code.shapes c.args.walk.now in
    let failed : loaded c.args.p c.args.kind p.store ≡ Err c.in-Err.error = sym c.load.ensures.value ∙ c.in-Err.is in
    record {
      goes = λ thread budget given b h.
          rw c.fault.ensures (fails_so code thread budget given c.args.place (body_with b p) x c.in-Err.error p.store
          (listed p.reply)
          (load_fails code thread budget given c.args.place (body_with b p) x c.args.p c.args.kind c.in-Err.error p.store
          c.requires.wish failed) h);
      held = tt;
    }

pub returns-in-Ok : goal.returns-in-Ok
returns-in-Ok c =
    let code = c.args.code.now in
    let p = c.args.self.now in
    let x = left_of code.shapes c.args.walk.now in
    let found : loaded c.args.p c.args.kind p.store ≡ Ok c.in-Ok.v = sym c.load.ensures.value ∙ c.in-Ok.is in
    record {
      goes = λ thread budget given b h.
          subst (λ (v : Scalar). StandsInside code thread budget given (listed p.reply) c.args.place
          (gives_zero (after_reply x (reply.Value v))) (body_with b p)) (sym c.scalar_of.ensures.value)
          (load_goes code thread budget given c.args.place (body_with b p) x c.args.p c.args.kind c.in-Ok.v p.store
          (listed p.reply) c.requires.wish found h);
      held = c.scalar_of.ensures.held code.threads code.shapes
          (loaded_held code.threads code.shapes c.args.p c.args.kind p.store c.in-Ok.v c.requires.store found);
    }
