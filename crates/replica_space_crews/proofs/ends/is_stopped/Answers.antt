use Rattle.std.proofs.Common.{arith}
use Rattle.replica_space_crews.proofs.ends.is_stopped.Goals as goal

pub returns-clause-no : goal.returns-clause-no
returns-clause-no c = λ no i d lt.
    let t = c.loop-at-test.false in let e = c.loop-at.auto.at-end in c.loop-at.invariant i d (omega (arith, lt, t, e))
