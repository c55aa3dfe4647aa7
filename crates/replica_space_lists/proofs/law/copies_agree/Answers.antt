use Rattle.replica_space_lists.proofs.Running.{copies-agree}
use Rattle.replica_space_lists.proofs.law.copies_agree.Goals as goal

pub returns : goal.returns
returns c = copies-agree
