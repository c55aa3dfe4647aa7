use Rattle.std.proofs.Common.{rules, ◌≡◌, suc, ◌<◌, ◌∷◌, length, sym, subst, ◌∙◌, arith}
use mathlib.Core.List.{IsPrefix}
use Rattle.turn_cell.specs.layer.Seats.{id_of}
use Rattle.upc_rounds_teams.specs.layer.Teams.{AreOf, HaveMet, seen_at}
use Rattle.upc_rounds_teams.proofs.Meetings.{have-met}
use Rattle.upc_rounds_teams.proofs.meeting.meet_all.Goals as goal

pub gather_all-requires-clause-others : goal.gather_all-requires-clause-others
gather_all-requires-clause-others c = λ i d lt.
    let is : c.args.places.now ≡ c.in-Some.first.now ∷ c.in-Some.others.now = search rules in
    subst (AreOf (id_of c.args.cell.now)) is c.requires.cell (suc i) d (omega arith)

pub spread_all-requires-clause-others : goal.spread_all-requires-clause-others
spread_all-requires-clause-others c = λ i d lt.
    let is : c.args.places.now ≡ c.in-Some.first.now ∷ c.in-Some.others.now = search rules in
    let g = c.gather_all.ensures in let l : i < length c.in-Some.others.now = subst (λ n. i < n) g.many lt in
    (g.others i d l).seat.cell ∙ subst (AreOf (id_of c.args.cell.now)) is c.requires.cell (suc i) d (omega arith)

pub spread_all-requires-clause-begins : goal.spread_all-requires-clause-begins
spread_all-requires-clause-begins c = λ i d lt.
    let g = c.gather_all.ensures in let l : i < length c.in-Some.others.now = subst (λ n. i < n) g.many lt in
    subst (λ z. IsPrefix z (seen_at c.gather_all.new.first)) (sym (g.same i d l)) (g.begins i d l)

pub returns : goal.returns
returns c =
    let is : c.args.places.now ≡ c.in-Some.first.now ∷ c.in-Some.others.now = search rules in
    let g = c.gather_all.ensures in let s = c.spread_all.ensures in
    subst (λ l. HaveMet l (c.spread_all.new.first ∷ c.spread_all.new.others)) (sym is)
    (have-met c.in-Some.first.now c.gather_all.new.first c.spread_all.new.first c.in-Some.others.now c.gather_all.new.others c.spread_all.new.others
    g.many s.many g.first s.first.0 s.first.1 g.others s.others s.seen g.lawful)
