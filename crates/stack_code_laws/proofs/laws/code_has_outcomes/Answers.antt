use Rattle.stack_code_laws.proofs.Endings.{has_outcome}
use Rattle.stack_code_laws.proofs.laws.code_has_outcomes.Goals as goal

pub returns : goal.returns
returns c = has_outcome
