use Rattle.std.proofs.Common.{rules, ◌≡◌, [], ◌∷◌, ◌++◌, ap, subst, ◌∙◌, append_assoc}
use Rattle.turn_cell.specs.layer.Seats.{AreFree}
use Rattle.turn_cell.specs.code.Rule.{joined}
use Rattle.turn_cell.proofs.Keeps.{joins}
use Rattle.turn_cell.proofs.Ends.{free_there}
use Rattle.turn_cell.proofs.calls.gather.Goals as goal

pub loop-seat-init : goal.loop-seat-init
loop-seat-init g c =
    let last = c.in-Some.last in let is : c.args.seats.items ≡ c.pop.new.self.items ++ last ∷ [] = search rules in
    let free = free_there g.W.Kept.number _ 0 c.pop.new.self.items last [] (subst (AreFree g.W.Kept.number c.args.table.now.shared.table_id 0) is c.requires.seats.0) in
    (free.0, ([], last, is, ap (λ l. (last.place.me.0, l)) free.1.2))

pub join_seat-requires : goal.join_seat-requires
join_seat-requires g c =
    let inv = c.loop-seat.invariant.1 in let s = c.in-Some-pop.seat in let rest = c.pop-in-loop-seat.new.self.items in
    let is : c.loop-seat.seats.items ≡ rest ++ s ∷ [] = search rules in
    let whole : c.args.seats.items ≡ rest ++ s ∷ (inv.0 ++ inv.1 ∷ []) = inv.2 ∙ (ap (λ l. l ++ (inv.0 ++ inv.1 ∷ [])) is ∙ append_assoc rest (s ∷ []) (inv.0 ++ inv.1 ∷ [])) in
    let free = free_there g.W.Kept.number _ 0 rest s (inv.0 ++ inv.1 ∷ []) (subst (AreFree g.W.Kept.number c.args.table.now.shared.table_id 0) whole c.requires.seats.0) in
    (c.loop-seat.invariant.0, free.0, free.1.2, c.requires.table, joins g.W.Kept.members g.W.Kept.opening g.W.Kept.number _ _ _ _ _ _ free.1.1)

pub loop-seat-preserved : goal.loop-seat-preserved
loop-seat-preserved g c =
    let inv = c.loop-seat.invariant.1 in let s = c.in-Some-pop.seat in let rest = c.pop-in-loop-seat.new.self.items in
    let is : c.loop-seat.seats.items ≡ rest ++ s ∷ [] = search rules in
    let whole : c.args.seats.items ≡ rest ++ s ∷ (inv.0 ++ inv.1 ∷ []) = inv.2 ∙ (ap (λ l. l ++ (inv.0 ++ inv.1 ∷ [])) is ∙ append_assoc rest (s ∷ []) (inv.0 ++ inv.1 ∷ [])) in
    (c.join_seat.ensures.0 ∙ c.loop-seat.invariant.0, (s ∷ inv.0, inv.1, whole, c.join_seat.ensures.2 ∙ ap (λ m. (joined m.0 s.place.me.0, m.1)) inv.3))
