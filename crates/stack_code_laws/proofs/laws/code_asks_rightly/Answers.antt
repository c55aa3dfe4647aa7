use Rattle.stack_code_laws.proofs.Rightly.{asks_rightly}
use Rattle.stack_code_laws.proofs.laws.code_asks_rightly.Goals as goal

pub returns : goal.returns
returns c = asks_rightly
