use Rattle.std.proofs.Common.{◌<◌, length, subst, sym, arith}
use Rattle.replica_space_tasks.specs.layer.Kept.{IsKept}
use Rattle.replica_space_crews.proofs.ends.none_goes.Goals as goal

pub returns : goal.returns
returns c = λ yes i d lt.
    let t = c.loop-at-test.false in let e = c.loop-at.auto.at-end in c.loop-at.invariant i d (omega (arith, lt, t, e))

pub goes-requires : goal.goes-requires
goes-requires c =
    let r = c.requires in let t = c.loop-at.at in
    let lt : t < length c.args.workers.now = (let a = c.loop-at-test.true in let b = c.loop-at.auto.at-end in omega arith) in
    (r.0, r.1.1, subst (IsKept c.args.run.now.0 r.0 r.1.1 c.args.run.now.1) (sym c.index-workers-at.is) (r.1.2.members t c.index-workers-at.result lt).at.kept)
