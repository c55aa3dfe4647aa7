use Rattle.replica_space_copies.proofs.Stepping.{fresh-by}
use Rattle.replica_space_copies.proofs.copies.Copies.make.Goals as goal

pub invariant_of-result : goal.invariant_of-result
invariant_of-result c =
    fresh-by c.in_ok-clocks.clocks.items c.in_ok-boxes.boxes.items c.args.threads c.new.result c.in_ok-clocks.ensures c.in_ok-boxes.ensures
