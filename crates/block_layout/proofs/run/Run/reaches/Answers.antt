use Rattle.std.proofs.Common.{◌+◌, ◌-◌, arith}
use Rattle.block_layout.proofs.Hits.{reach_low, reach_still, reach_step, reach_between}
use Rattle.block_layout.proofs.run.Run.reaches.Goals as goal

pub returns-then-place-first : goal.returns-then-place-first
returns-then-place-first c =
    let r = c.self.inside in
    rw (← c.self.view_is) (reach_low r.start r.stride r.count c.args.offset c.args.place (omega arith))

pub returns-then-self-eq0 : goal.returns-then-self-eq0
returns-then-self-eq0 c =
    let r = c.self.inside in
    rw (← c.self.view_is, c.from-place.ensures, c.from.ensures, c.from-2.ensures) (reach_still r.start r.stride r.count c.args.offset c.args.place (omega arith) (omega arith) c.self.invariant.some)

pub returns-then-gap-stride-eq0 : goal.returns-then-gap-stride-eq0
returns-then-gap-stride-eq0 c =
    let r = c.self.inside in
    rw (← c.self.view_is, c.from-then-gap-stride-eq0.ensures, c.from-stride.ensures)
    (reach_step r.start r.stride r.count c.args.offset c.args.place (c.from-place.result - (c.from.result + c.from-2.result)) (omega arith) (omega arith) (rw c.from-stride.ensures at c.if-gap-stride-eq0.true))

pub returns-else-gap-stride-eq0 : goal.returns-else-gap-stride-eq0
returns-else-gap-stride-eq0 c =
    let r = c.self.inside in
    rw (← c.self.view_is, c.from-stride.ensures)
    (reach_between r.start r.stride r.count c.args.offset c.args.place (c.from-place.result - (c.from.result + c.from-2.result)) (omega arith) (omega arith) (rw c.from-stride.ensures at c.if-gap-stride-eq0.false))
