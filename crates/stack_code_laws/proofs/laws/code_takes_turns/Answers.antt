use Rattle.stack_code_laws.proofs.Turns.{takes_turns}
use Rattle.stack_code_laws.proofs.laws.code_takes_turns.Goals as goal

pub returns : goal.returns
returns c = takes_turns
