use Rattle.std.proofs.Common.{◌≡◌, ◌<◌, refl, ap, sym, subst, ◌∙◌}
use Rattle.std.specs.Option.{IsSome}
use Rattle.turn_cell.specs.layer.Members.{Every}
use Rattle.turn_cell.specs.layer.Seats.{HasAll, seats_of}
use Rattle.turn_cell.proofs.Ends.{closed_with}
use Rattle.turn_cell.proofs.cell.TurnCell.close.Goals as goal

pub unwrap-requires : goal.unwrap-requires
unwrap-requires g c = let all = c.gather-last.ensures.all in let value = c.close_with-closed.ensures.values in
    let e = closed_with g.W.Kept.members g.W.Kept.opening g.W.Kept.number _ _ _ _ _ c.args.seats.items all.0 all.1 _ _ _ c.requires.seats.0 c.requires.seats.1 all.2 all.3 value.2 c.take-slot.ensures.value in
    subst IsSome (sym e.1) refl

pub returns-clause-opening : goal.returns-clause-opening
returns-clause-opening g c = let all = c.gather-last.ensures.all in let value = c.close_with-closed.ensures.values in
    let e = closed_with g.W.Kept.members g.W.Kept.opening g.W.Kept.number _ _ _ _ _ c.args.seats.items all.0 all.1 _ _ _ c.requires.seats.0 c.requires.seats.1 all.2 all.3 value.2 c.take-slot.ensures.value in
    let is : c.unwrap.result ≡ e.0 = cc (c.unwrap.ensures, e.1) in ap g.W.Kept.opening is ∙ e.2

pub returns-clause-all : goal.returns-clause-all
returns-clause-all g c = let all = c.gather-last.ensures.all in let value = c.close_with-closed.ensures.values in
    let e = closed_with g.W.Kept.members g.W.Kept.opening g.W.Kept.number _ _ _ _ _ c.args.seats.items all.0 all.1 _ _ _ c.requires.seats.0 c.requires.seats.1 all.2 all.3 value.2 c.take-slot.ensures.value in
    let is : e.0 ≡ c.unwrap.result = cc (c.unwrap.ensures, e.1) in subst (λ w. HasAll g.W.Kept.number (g.W.Kept.members w) c.args.seats.items) is e.3

pub returns-clause-named : goal.returns-clause-named
returns-clause-named g c = let all = c.gather-last.ensures.all in let value = c.close_with-closed.ensures.values in
    let e = closed_with g.W.Kept.members g.W.Kept.opening g.W.Kept.number _ _ _ _ _ c.args.seats.items all.0 all.1 _ _ _ c.requires.seats.0 c.requires.seats.1 all.2 all.3 value.2 c.take-slot.ensures.value in
    let is : e.0 ≡ c.unwrap.result = cc (c.unwrap.ensures, e.1) in subst (λ w. Every (λ m. g.W.Kept.number m < seats_of c.args.self) (g.W.Kept.members w)) is e.4
