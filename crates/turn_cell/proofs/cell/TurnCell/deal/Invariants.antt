use Rattle.std.proofs.Common.{◌≡◌, ◌-◌, ◌≤◌, [], length, vec_capacity}
use Rattle.turn_cell.specs.layer.Seats.{AreNew, id_of, started}
use Rattle.turn_cell.specs.code.Rule.{starting}
use Rattle.turn_cell.proofs.cell.TurnCell.deal.Given as goal

abbrev pub invariant-loop-number : goal.invariant-loop-number
invariant-loop-number g l = (length l.all.items ≡ l.number) × AreNew (id_of l.fn.self) (g.W.Kept.opening (started l.fn.self)) 0 l.all.items
    × (l.first.table_id ≡ id_of l.fn.self) × (l.first.me ≡ (starting (g.W.Kept.opening (started l.fn.self)) l.number (l.fn.seats - l.number), [])) × (l.fn.seats ≤ vec_capacity l.all)
