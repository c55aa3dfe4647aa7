use Rattle.gen_stmt.proofs.Deeps.{program_deep}
use Rattle.gen_stmt.proofs.laws.depths_agree.Goals as goal

pub returns : goal.returns
returns c = program_deep
