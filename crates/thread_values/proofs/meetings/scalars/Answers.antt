use Rattle.std.proofs.Common.{rules, ◌<◌, length, arith}
use Rattle.thread_values.proofs.Sized.{scalars-next, scalars-passed}
use Rattle.thread_values.proofs.meetings.scalars.Goals as goal
use Rattle.thread_values.proofs.meetings.scalars.Goals.{in-Scalar+in_ok-push, in_default}

pub loop-v-preserved : goal.loop-v-preserved
loop-v-preserved c =
    let below : c.loop-v.v-index < length c.args.values.now = omega arith in
    elim c.match-v.branch [
      | in-Scalar+in_ok-push w ↦
          scalars-next c.args.values.now c.loop-v.v-index _ c.loop-v.found.items c.match-v.found.items w.in-Scalar.scalar
          below w.in-Scalar.is c.loop-v.invariant (search rules)
      | in_default w ↦
          scalars-passed c.args.values.now c.loop-v.v-index _ c.loop-v.found.items c.match-v.found.items
          below w.in_default.not-Scalar c.loop-v.invariant (search rules)
    ]
