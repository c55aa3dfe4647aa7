use Rattle.stack_code_laws.proofs.Endings.{is_within_budget}
use Rattle.stack_code_laws.proofs.laws.code_keeps_budgets.Goals as goal

pub returns : goal.returns
returns c = is_within_budget
