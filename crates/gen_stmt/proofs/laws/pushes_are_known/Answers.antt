use Rattle.gen_stmt.proofs.Gathered.{program_pushes}
use Rattle.gen_stmt.proofs.laws.pushes_are_known.Goals as goal

pub returns : goal.returns
returns c = program_pushes
