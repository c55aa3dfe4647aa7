use Rattle.upc_top_judging.proofs.Once.{one-judgment}
use Rattle.upc_top_judging.proofs.judging.one_judgment.Goals as goal

pub returns : goal.returns
returns c = one-judgment
