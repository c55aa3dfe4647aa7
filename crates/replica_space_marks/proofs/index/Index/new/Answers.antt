use Rattle.std.proofs.Common.{ap}
use Rattle.std.specs.Map.{lookup}
use Rattle.replica_space_marks.specs.layer.Index.{key_of, same_key, marks_or_none, marks_at}
use Rattle.replica_space_marks.proofs.index.Index.new.Goals as goal

pub returns : goal.returns
unfolding marks_at
returns c = λ l. ap (λ z. marks_or_none (lookup (same_key (key_of l)) z)) c.new.ensures.empty
