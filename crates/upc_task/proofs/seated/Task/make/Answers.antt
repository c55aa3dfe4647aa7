use Rattle.std.proofs.Common.{◌≡◌, [], refl, sym, ap, subst, ◌∙◌}
use Rattle.upc_values.specs.Drain.{entries_of}
use Rattle.turn_cell.specs.layer.Seats.{seen_of}
use Rattle.upc_task.specs.layer.Seated.{IsLawful}
use Rattle.upc_task.proofs.seated.Task.make.Goals as goal

pub returns-clause-kept : goal.returns-clause-kept
returns-clause-kept c = λ o f opened opening has.
    let s = c.args.seat in let e = c.in_ok-worker.ensures in
    let none : seen_of s ≡ [] = c.requires.seat.1 in
    record {
      cell = refl;
      opened = opened;
      number = c.requires.seat.0 ∙ sym e.new.0;
      lawful = subst (IsLawful o) (sym none) (record { opening = opening; legal = tt; formed = tt; below = tt });
      kept = e.kept o f (seen_of s) has (ap (entries_of c.args.thread) none);
    }
