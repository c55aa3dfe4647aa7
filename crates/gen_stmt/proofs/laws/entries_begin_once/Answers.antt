use Rattle.gen_stmt.proofs.Gathered.{program_begins}
use Rattle.gen_stmt.proofs.laws.entries_begin_once.Goals as goal

pub returns : goal.returns
returns c = program_begins
