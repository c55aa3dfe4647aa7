use Rattle.gen_stmt_laws.proofs.Tests.{tests_pass}
use Rattle.gen_stmt_laws.proofs.laws.tests_hold.Goals as goal

pub returns : goal.returns
returns c = tests_pass
