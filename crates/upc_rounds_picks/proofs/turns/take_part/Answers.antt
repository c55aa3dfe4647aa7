use Rattle.std.proofs.Common.{◌≡◌, sym, subst, ap, ◌∙◌, get_or}
use Rattle.std.proofs.lemmas.List.{get_or_default}
use Rattle.turn_cell.specs.layer.Seats.{id_of, started}
use Rattle.upc_rounds_teams.specs.declared.place.Place.{Place}
use Rattle.upc_rounds_teams.specs.layer.Course.{TakesPart}
use Rattle.upc_rounds_teams.specs.layer.Runs.{Rested}
use Rattle.upc_rounds_teams.proofs.Crews.{worker-at}
use Rattle.upc_rounds_picks.proofs.Turning.{turned-cells, turned-crew, turned-grows, turned-same, turned-worker, turned-goes, turned-others}
use Rattle.upc_rounds_picks.proofs.turns.take_part.Goals as goal

pub round-requires-clause-kept : goal.round-requires-clause-kept
round-requires-clause-kept g c κs within =
    let z = id_of c.args.cell.now in let o = (started c.args.cell.now).0 in let code = c.args.code.now in
    let ks = c.args.places.now in let at = c.args.at in let k = get_or ks at c.index-places-at.result in let t = c.requires.running in
    (t.0, (t.1.members at c.index-places-at.result c.requires.at.0).kept)

pub round-requires-clause-open : goal.round-requires-clause-open
round-requires-clause-open g c κs within =
    let ks = c.args.places.now in let at = c.args.at in let k = get_or ks at c.index-places-at.result in
    ap (λ w. w.«end») (sym (worker-at ks at c.index-places-at.result k.task.worker c.requires.at.0)) ∙ c.requires.at.1 k.task.worker

pub meet_all-requires-clause-cell : goal.meet_all-requires-clause-cell
meet_all-requires-clause-cell g c =
    let z = id_of c.args.cell.now in let o = (started c.args.cell.now).0 in let code = c.args.code.now in
    let ks = c.args.places.now in let at = c.args.at in let k = get_or ks at c.index-places-at.result in
    let m : Place = record { task = c.round.new.task; failed = k.failed } in
    let was : (d : Place) → k ≡ get_or ks at d = λ d. get_or_default ks at c.index-places-at.result d c.requires.at.0 in
    turned-cells z o code ks at k m c.requires.at.0 was c.in_ok-round.ensures.took.moved c.requires.running

pub returns-clause-running : goal.returns-clause-running
returns-clause-running g c =
    let z = id_of c.args.cell.now in let o = (started c.args.cell.now).0 in let code = c.args.code.now in
    let ks = c.args.places.now in let at = c.args.at in let k = get_or ks at c.index-places-at.result in
    let m : Place = record { task = c.round.new.task; failed = k.failed } in
    let was : (d : Place) → k ≡ get_or ks at d = λ d. get_or_default ks at c.index-places-at.result d c.requires.at.0 in
    turned-crew z o code ks at k m c.requires.at.0 was c.in_ok-round.ensures.took.moved c.meet_all.new.places c.meet_all.ensures

pub returns-clause-same : goal.returns-clause-same
returns-clause-same g c =
    let z = id_of c.args.cell.now in let o = (started c.args.cell.now).0 in let code = c.args.code.now in
    let ks = c.args.places.now in let at = c.args.at in let k = get_or ks at c.index-places-at.result in
    let m : Place = record { task = c.round.new.task; failed = k.failed } in
    let was : (d : Place) → k ≡ get_or ks at d = λ d. get_or_default ks at c.index-places-at.result d c.requires.at.0 in
    turned-same z o code ks at k m c.requires.at.0 was c.in_ok-round.ensures.took.moved c.meet_all.new.places c.meet_all.ensures

pub returns-clause-others : goal.returns-clause-others
returns-clause-others g c =
    let z = id_of c.args.cell.now in let o = (started c.args.cell.now).0 in let code = c.args.code.now in
    let ks = c.args.places.now in let at = c.args.at in let k = get_or ks at c.index-places-at.result in
    let m : Place = record { task = c.round.new.task; failed = k.failed } in
    let was : (d : Place) → k ≡ get_or ks at d = λ d. get_or_default ks at c.index-places-at.result d c.requires.at.0 in
    turned-others z o code ks at k m c.requires.at.0 was c.in_ok-round.ensures.took.moved c.meet_all.new.places c.meet_all.ensures

pub returns-clause-part : goal.returns-clause-part
returns-clause-part g c =
    let z = id_of c.args.cell.now in let o = (started c.args.cell.now).0 in let code = c.args.code.now in
    let ks = c.args.places.now in let at = c.args.at in let k = get_or ks at c.index-places-at.result in
    let m : Place = record { task = c.round.new.task; failed = k.failed } in
    let was : (d : Place) → k ≡ get_or ks at d = λ d. get_or_default ks at c.index-places-at.result d c.requires.at.0 in
    turned-goes z o code ks at k m c.requires.at.0 was c.in_ok-round.ensures.took.moved c.meet_all.new.places c.meet_all.ensures TakesPart c.in_ok-round.ensures.took.takes

pub returns-clause-grows : goal.returns-clause-grows
returns-clause-grows g c =
    let z = id_of c.args.cell.now in let o = (started c.args.cell.now).0 in let code = c.args.code.now in
    let ks = c.args.places.now in let at = c.args.at in let k = get_or ks at c.index-places-at.result in
    let m : Place = record { task = c.round.new.task; failed = k.failed } in
    let was : (d : Place) → k ≡ get_or ks at d = λ d. get_or_default ks at c.index-places-at.result d c.requires.at.0 in
    turned-grows z o code ks at k m c.requires.at.0 was c.in_ok-round.ensures.took.moved c.meet_all.new.places c.meet_all.ensures

pub returns-clause-rested : goal.returns-clause-rested
returns-clause-rested g c =
    let z = id_of c.args.cell.now in let o = (started c.args.cell.now).0 in let code = c.args.code.now in
    let ks = c.args.places.now in let at = c.args.at in let k = get_or ks at c.index-places-at.result in
    let m : Place = record { task = c.round.new.task; failed = k.failed } in
    let was : (d : Place) → k ≡ get_or ks at d = λ d. get_or_default ks at c.index-places-at.result d c.requires.at.0 in
    λ w. subst Rested (sym (turned-worker z o code ks at k m c.requires.at.0 was c.in_ok-round.ensures.took.moved c.meet_all.new.places c.meet_all.ensures w)) c.in_ok-round.ensures.took.rested
