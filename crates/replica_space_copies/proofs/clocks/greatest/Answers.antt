use Rattle.std.proofs.Common.{arith, slice_index}
use Rattle.std.proofs.lemmas.Bool.Decides.{nat_tests}
use Rattle.replica_space_copies.proofs.Meeting.{greatest-next}
use Rattle.replica_space_copies.proofs.clocks.greatest.Goals as goal

pub loop-clock-preserved : goal.loop-clock-preserved
loop-clock-preserved c =
    let e = greatest-next c.loop-clock.clock-index (λ t. slice_index c.args.clocks.now t) in
    grind (arith, nat_tests)
