use Rattle.typing_rules.proofs.FirstFault.{is_first}
use Rattle.typing_rules.proofs.laws.fault_is_first.Goals as goal

pub returns : goal.returns
returns c = λ xs f h. is_first xs f h
