use Rattle.gen_stmt.proofs.Gathered.{program_enters}
use Rattle.gen_stmt.proofs.laws.blocks_begin_after_few.Goals as goal

pub returns : goal.returns
returns c = program_enters
