use Rattle.replica_space_lists.proofs.Running.{are-kept}
use Rattle.replica_space_lists.proofs.law.lists_are_kept.Goals as goal

pub returns : goal.returns
returns c = are-kept
