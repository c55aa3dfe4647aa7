use Rattle.std.proofs.Common.{rules, ap, sym, ◌∙◌, ◌++◌}
use Rattle.turn_cell.specs.layer.Members.{of, added_to}
use Rattle.turn_cell.specs.layer.Seats.{seen_of, number_of, own_of, first_own}
use Rattle.turn_cell.proofs.Beginnings.{of-append, of-all}
use Rattle.turn_cell.proofs.Keeps.{leaves}
use Rattle.turn_cell.proofs.Ends.{left_own}
use Rattle.turn_cell.proofs.cell.TurnCell.leave.Goals as goal

pub store-requires : goal.store-requires
store-requires g c =
    let turn = c.requires.turn in let now = c.exchange.ensures.3 in let added = added_to (seen_of c.args.seat.now) (g.W.Kept.members c.args.turn.world) in (
      search rules,
      search rules,
      leaves g.W.Kept.members g.W.Kept.opening g.W.Kept.number _ _ _ _ _ c.args.turn.world (number_of c.args.seat.now) (own_of c.args.seat.now) added _
          (ap (λ m. m.0.holds) now ∙ turn.1) (ap (λ m. m.0.parts) now ∙ turn.0.0) (ap (λ m. m.0.opening) now ∙ c.requires.opening)
          (search rules) (c.requires.begins ∙ ap (λ m. m.0.seen ++ added) (sym now)) c.requires.added c.requires.short (search rules),
    )

pub returns-clause-own : goal.returns-clause-own
returns-clause-own g c =
    let turn = c.requires.turn in let n = number_of c.args.seat.now in let seen = seen_of c.args.seat.now in let added = added_to seen (g.W.Kept.members c.args.turn.world) in
    (ap (λ m. first_own m.0.parts) (c.store.ensures.2 c.args.turn.world (search rules)) ∙ left_own g.W.Kept.members g.W.Kept.number c.exchange.new.seat.me.0 c.args.turn.world n (own_of c.args.seat.now) (ap (λ m. m.0.parts) c.exchange.ensures.3 ∙ turn.0.0)) ∙ (ap (of g.W.Kept.number n) c.requires.begins ∙ (of-append g.W.Kept.number n seen added ∙ (ap (λ l. l ++ of g.W.Kept.number n added) (sym turn.0.2) ∙ ap (λ l. own_of c.args.seat.now ++ l) (of-all g.W.Kept.number n added c.requires.added))))
