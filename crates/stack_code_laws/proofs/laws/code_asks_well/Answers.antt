use Rattle.stack_code_laws.proofs.Asking.{asks_well}
use Rattle.stack_code_laws.proofs.laws.code_asks_well.Goals as goal

pub returns : goal.returns
returns c = asks_well
