use Rattle.std.proofs.Common.{arith}
use Rattle.replica_space_crews.proofs.ends.all_ended.Goals as goal

pub returns : goal.returns
returns c = λ yes i d lt.
    let t = c.loop-at-test.false in let e = c.loop-at.auto.at-end in c.loop-at.invariant i d (omega (arith, lt, t, e))
