use Rattle.std.proofs.Common.{◌≡◌, sym, refl, subst}
use Rattle.std.specs.Prelude.{Ok, Err}
use Rattle.upc_values.specs.declared.scalar.Value.{Value}
use Rattle.private_store.specs.Cells.{stored}
use Rattle.stack_machine.specs.layer.Machine.{listed}
use Rattle.stack_machine.specs.code.Calls.{left_of}
use Rattle.stack_machine.specs.code.Kept.{HoldsHeld}
use Rattle.stack_machine.specs.code.Walking.{body_with}
use Rattle.stack_machine.proofs.Answering.{store_goes, store_fails, fails_so, writes_next}
use Rattle.stack_machine.proofs.Holding.{stored_held}
use Rattle.stack_machine.proofs.progress.Progress.save_cell.Goals as goal

pub returns-in-Err : goal.returns-in-Err
returns-in-Err c =
    let code = c.args.code.now in
    let p = c.args.self.now in
    let x = left_of code.shapes c.args.walk.now in
    record {
      goes = λ thread budget given b h.
          rw c.fault.ensures (fails_so code thread budget given c.args.place (body_with b p) x c.in-Err.error p.store
          (listed p.reply)
          (store_fails code thread budget given c.args.place (body_with b p) x c.args.p c.args.kind c.args.v c.in-Err.error
          p.store c.requires.wish
          (subst (λ (w : Value). stored c.args.p c.args.kind w p.store ≡ Err c.in-Err.error) c.kept.ensures.value
          c.in-Err.ensures.code)) h);
      held = tt;
      store = subst (HoldsHeld code.threads code.shapes) (sym c.in-Err.ensures.err) c.requires.store;
      kept = refl;
    }

pub returns-in-Ok : goal.returns-in-Ok
returns-in-Ok c =
    let code = c.args.code.now in
    let p = c.args.self.now in
    let x = left_of code.shapes c.args.walk.now in
    record {
      goes = λ thread budget given b h.
          store_goes code thread budget given c.args.place (body_with b p) x c.args.p c.args.kind c.args.v p.store
          c.store.new.self (listed p.reply) c.requires.wish
          (subst (λ (w : Value). stored c.args.p c.args.kind w p.store ≡ Ok c.store.new.self) c.kept.ensures.value
          c.in-Ok.ensures.ok) h;
      held = tt;
      store = stored_held code.threads code.shapes c.args.p c.args.kind c.kept.result p.store c.store.new.self
          c.requires.store
          (c.kept.ensures.held code.threads code.shapes
          (writes_next code.threads code.shapes x c.args.p c.args.kind c.args.v c.requires.wish c.requires.values))
          c.in-Ok.ensures.ok;
      kept = refl;
    }
