use Rattle.std.proofs.Common.{rules, ◌≡◌, ◌<◌, List, length, false, sym, subst, get_or}
use Rattle.upc_values.specs.Lists.{Numbered}
use Rattle.turn_cell.specs.layer.Seats.{id_of, started}
use Rattle.upc_rounds_teams.specs.declared.place.Place.{Place}
use Rattle.upc_rounds.proofs.Teams.{team-goes, moved-did, did-rested, moved-same}
use Rattle.upc_rounds.proofs.all.go.Goals as goal

none-failed : (xs ys : List Place) → xs ≡ ys → Numbered (λ i (k : Place). k.failed ≡ false) xs → Numbered (λ i (k : Place). k.failed ≡ false) ys
none-failed xs ys is h = subst (Numbered (λ i (k : Place). k.failed ≡ false)) is h

pub round_all-requires-clause-kept : goal.round_all-requires-clause-kept
round_all-requires-clause-kept g c κs within = λ i d lt. let t = c.requires.team in (t.0, (t.1.crew.members i d lt).kept)

pub meet_all-requires-clause-cell : goal.meet_all-requires-clause-cell
meet_all-requires-clause-cell g c = λ i d lt.
    let t = c.requires.team in let l : i < length c.args.places.now.items = subst (λ n. i < n) c.round_all.ensures.many lt in
    let fine : Numbered (λ i (k : Place). k.failed ≡ false) c.round_all.new.places.items = none-failed c.as_slice.result.now c.round_all.new.places.items (search rules) (c.has_failed.ensures c.if-has_failed.false) in
    ((moved-did (id_of c.args.cell.now) (started c.args.cell.now).0 c.args.code.now (get_or c.args.places.now.items i d) (get_or c.round_all.new.places.items i d)
    (c.round_all.ensures.did i d l) (fine i d lt)).fine t.0 (t.1.crew.members i d l).kept).cell

pub returns-clause-gone : goal.returns-clause-gone
returns-clause-gone g c = λ f team.
    team-goes (id_of c.args.cell.now) (started c.args.cell.now).0 c.args.code.now f c.args.places.now.items c.round_all.new.places.items c.meet_all.new.places.items
    c.requires.some c.round_all.ensures.many c.round_all.ensures.did (none-failed c.as_slice.result.now c.round_all.new.places.items (search rules) (c.has_failed.ensures c.if-has_failed.false)) c.meet_all.ensures team

pub returns-clause-rested : goal.returns-clause-rested
returns-clause-rested g c =
    did-rested (id_of c.args.cell.now) (started c.args.cell.now).0 c.args.code.now c.args.places.now.items c.round_all.new.places.items c.meet_all.new.places.items
    c.round_all.ensures.many c.round_all.ensures.did (none-failed c.as_slice.result.now c.round_all.new.places.items (search rules) (c.has_failed.ensures c.if-has_failed.false)) c.meet_all.ensures

pub returns-clause-same : goal.returns-clause-same
returns-clause-same g c =
    let z = id_of c.args.cell.now in let o = (started c.args.cell.now).0 in let code = c.args.code.now in
    let ks = c.args.places.now.items in let ms = c.round_all.new.places.items in
    let fine : Numbered (λ i (k : Place). k.failed ≡ false) ms = none-failed c.as_slice.result.now c.round_all.new.places.items (search rules) (c.has_failed.ensures c.if-has_failed.false) in
    moved-same z o code ks ms c.meet_all.new.places.items c.round_all.ensures.many
    (λ i d lt. moved-did z o code (get_or ks i d) (get_or ms i d) (c.round_all.ensures.did i d lt) (fine i d (subst (λ n. i < n) (sym c.round_all.ensures.many) lt)))
    c.meet_all.ensures
