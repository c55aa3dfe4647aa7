use Rattle.replica_space_consistent.proofs.Judging.{are-consistent}
use Rattle.replica_space_consistent.proofs.law.orders_are_consistent.Goals as goal

pub returns : goal.returns
returns c = are-consistent
