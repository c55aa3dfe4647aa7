use Rattle.std.proofs.Common.{◌≡◌, List, [], ◌∷◌, ◌++◌}
use Rattle.turn_cell.specs.declared.seat.Seat.{Seat}
use Rattle.turn_cell.specs.code.Rule.{collect}
use Rattle.turn_cell.proofs.calls.gather.Given as goal

abbrev pub invariant-loop-seat : goal.invariant-loop-seat
invariant-loop-seat g l = (l.all.table_id ≡ l.fn.table.shared.table_id)
    × ((ss : List (Seat g.row.W.Denot g.row.W-Member.Denot g.row.W-Opening.Denot)) × (last : Seat g.row.W.Denot g.row.W-Member.Denot g.row.W-Opening.Denot)
    × (l.fn.seats.items ≡ l.seats.items ++ (ss ++ last ∷ [])) × (l.all.me ≡ (collect last.place.me.0 ss, [])))

abbrev pub decreases-loop-seat : goal.decreases-loop-seat
decreases-loop-seat g l = goal.left-loop-seat g l
