use Rattle.std.proofs.Common.{◌∙◌, refl, sym, ap, subst}
use Rattle.turn_cell.specs.layer.Seats.{seen_of}
use Rattle.upc_task.specs.layer.Recorded.{IsRecorded}
use Rattle.upc_task.specs.layer.Kept.{IsKept}
use Rattle.upc_task.proofs.Seen.{ordered-same}
use Rattle.upc_task.proofs.Workers.{kept-worked}
use Rattle.upc_task.proofs.seated.Task.work.Goals as goal

pub returns-clause-kept : goal.returns-clause-kept
returns-clause-kept c = λ f o seen h.
    let k = c.args.self.now.worker in let e = c.in_ok-work.ensures in let m = c.work.new.self in
    subst (IsKept o c.args.code.now f seen) (sym e.is)
    (kept-worked o c.args.code.now f seen k m.machine m.answer m.wish h
    (subst (IsRecorded o c.args.code.now f) e.is (e.recorded f o h.recorded)))

pub returns-clause-stays : goal.returns-clause-stays
returns-clause-stays c = λ z o f h.
    let k = c.args.self.now.worker in let e = c.in_ok-work.ensures in let m = c.work.new.self in
    let p = c.args.code.now in let seen = seen_of c.args.self.now.seat in
    record {
      cell = h.cell;
      opened = h.opened;
      number = h.number ∙ sym e.same.0.thread;
      lawful = h.lawful;
      kept = subst (IsKept o p f seen) (sym e.is)
          (kept-worked o p f seen k m.machine m.answer m.wish h.kept (subst (IsRecorded o p f) e.is (e.recorded f o h.kept.recorded)));
    }

pub returns-in_err-work-clause-order : goal.returns-in_err-work-clause-order
returns-in_err-work-clause-order c = λ o h.
    let e = c.in_err-work.ensures in
    ordered-same o c.args.self.now _ h refl e.same.0.thread (ap (λ xs. xs.items) e.items)

pub returns-clause-order : goal.returns-clause-order
returns-clause-order c = λ o h.
    let e = c.in_ok-work.ensures in
    ordered-same o c.args.self.now _ h refl e.same.0.thread (ap (λ xs. xs.items) e.items)
