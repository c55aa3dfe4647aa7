use Rattle.std.proofs.Common.{◌∙◌, sym, ap, subst}
use Rattle.turn_cell.specs.layer.Seats.{seen_of}
use Rattle.upc_task.specs.layer.Kept.{IsKept}
use Rattle.upc_task.proofs.Workers.{kept-ended}
use Rattle.upc_task.proofs.seated.Task.end_as.Goals as goal

pub returns-clause-kept : goal.returns-clause-kept
returns-clause-kept c = λ p z o f h.
    let e = c.end_as.ensures in let k = c.args.self.now in let seen = seen_of k.seat in
    record {
      cell = h.cell;
      opened = h.opened;
      number = h.number ∙ sym (ap (λ k. k.thread) e.is);
      lawful = h.lawful;
      kept = subst (IsKept o p f seen) (sym e.is) (kept-ended o p f seen k.worker c.args.«end» h.kept c.requires.«open» c.requires.can);
    }
