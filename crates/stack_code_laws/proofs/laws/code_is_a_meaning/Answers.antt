use Rattle.stack_code_laws.proofs.Meanings.{is_meaning}
use Rattle.stack_code_laws.proofs.laws.code_is_a_meaning.Goals as goal

pub returns : goal.returns
returns c = is_meaning
