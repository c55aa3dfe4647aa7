use Rattle.gen_stmt_laws.proofs.Accepted.{accepted_have_formed_types}
use Rattle.gen_stmt_laws.proofs.laws.accepted_have_formed_types.Goals as goal

pub returns : goal.returns
returns c = accepted_have_formed_types
