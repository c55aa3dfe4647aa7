use Rattle.std.proofs.Common.{rules, refl, ap, sym, ◌∙◌, [], ◌∷◌, Some}
use Rattle.atomic_table.specs.Table.{rest}
use mathlib.Core.Option.{none}
use Rattle.turn_cell.specs.layer.Seats.{part, number_of, own_of}
use Rattle.turn_cell.proofs.Keeps.{enters}
use Rattle.turn_cell.proofs.cell.TurnCell.enter.Goals as goal

pub compare_exchange-requires : goal.compare_exchange-requires
compare_exchange-requires g c =
    let same = c.loop.invariant.1 in let free = c.requires.free in (
      search rules,
      search rules,
      enters g.W.Kept.members g.W.Kept.opening g.W.Kept.number _ _ _ _ _ _ _ none (part (number_of c.args.seat.now) (own_of c.args.seat.now)) []
          (ap (λ m. m.0.parts) same ∙ free.0.0) (search rules) refl,
    )

pub exchange-requires : goal.exchange-requires
exchange-requires g c =
    let won = c.compare_exchange.ensures.2.0 (search rules) in
    (search rules, (Some won.0, ap (λ m. m.1) won.1 ∙ ap (λ l. (0, Some won.0) ∷ l) (sym (ap (λ m. rest m.1) won.1))))
