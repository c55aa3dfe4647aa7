use Rattle.upc_rounds.proofs.Handing.{taken-for, gives-for}
use Rattle.upc_rounds.proofs.hands.attend.Goals as goal

pub play-requires-clause-kept : goal.play-requires-clause-kept
play-requires-clause-kept g c κs within = taken-for c.args.cell.now c.args.code.now c.args.post.now c.in-Some-take.place c.requires.work c.in-Some-take.ensures.some.1

pub give-requires : goal.give-requires
give-requires g c =
    let x = c.in-Some-take.place in
    (x, c.in-Some-take.ensures.some.0, gives-for c.args.cell.now c.args.code.now c.args.post.now x c.play.new.place c.requires.work c.play.ensures.did)
