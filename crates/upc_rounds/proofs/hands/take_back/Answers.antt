use Rattle.std.proofs.Common.{sym, subst}
use Rattle.turn_cell.specs.layer.Seats.{id_of, started}
use Rattle.upc_rounds_teams.specs.declared.place.Place.{Place}
use Rattle.upc_rounds_teams.specs.layer.Places.{Did}
use Rattle.upc_rounds.specs.code.Posts.{MayPlay}
use Rattle.upc_rounds.proofs.Handing.{given-for}
use Rattle.upc_rounds.proofs.hands.take_back.Goals as goal

pub play-requires-clause-kept : goal.play-requires-clause-kept
play-requires-clause-kept g c κs within = let h = c.requires.out in
    subst (MayPlay c.args.cell.now c.args.code.now) (sym (c.in-Some.ensures.some.1 h.0 h.1)) h.2

pub back-requires : goal.back-requires
back-requires g c = let h = c.requires.out in (h.0, c.in-None.ensures.none h.0 h.1)

pub returns-in-Some-clause-did : goal.returns-in-Some-clause-did
returns-in-Some-clause-did g c = λ x w.
    subst (λ (k : Place). Did (id_of c.args.cell.now) (started c.args.cell.now).0 c.args.code.now k c.play.new.place) (c.in-Some.ensures.some.1 x w) c.play.ensures.did

pub returns-in-None-clause-did : goal.returns-in-None-clause-did
returns-in-None-clause-did g c = λ x w.
    given-for c.args.cell.now c.args.code.now c.args.post.now x c.back.result c.requires.work (c.back.ensures.did x (c.in-None.ensures.none x w))
