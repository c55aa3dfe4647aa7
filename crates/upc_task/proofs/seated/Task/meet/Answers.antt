use Rattle.std.proofs.Common.{◌≡◌, ◌∙◌, refl, sym, subst}
use Rattle.turn_cell.specs.layer.Seats.{number_of, seen_of, own_of}
use Rattle.upc_values.specs.Drain.{entries_of}
use Rattle.upc_task.specs.layer.Seated.{IsLawful}
use Rattle.upc_task.proofs.Seen.{kept-entered, longer-holds}
use Rattle.upc_task.proofs.seated.Task.meet.Goals as goal

pub returns-clause-kept : goal.returns-clause-kept
returns-clause-kept c = λ o p f h other.
    let k = c.args.self.now in let e = c.meet.ensures in let seat = e.seat in let new = c.meet.new.seat in
    record {
      cell = seat.1.0 ∙ h.cell;
      opened = seat.1.2 ∙ h.opened;
      number = seat.1.1 ∙ h.number;
      lawful = subst (IsLawful o) (sym e.seen)
          (longer-holds (IsLawful o) (seen_of k.seat) (seen_of c.args.other.now.seat) h.lawful other);
      kept = kept-entered o o p f (number_of k.seat) (seen_of k.seat) (seen_of new) k.worker e.begins.0
          (sym (subst (λ n. own_of new ≡ entries_of n (seen_of new)) seat.1.1 seat.0.0.2) ∙ seat.2 ∙ k.free.0.2)
          (sym h.number) refl h.kept;
    }
