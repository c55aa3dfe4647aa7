use Rattle.typing_rules.proofs.FirstFault.{all_meet}
use Rattle.typing_rules.proofs.laws.none_is_broken.Goals as goal

pub returns : goal.returns
returns c = λ xs h. all_meet xs h
