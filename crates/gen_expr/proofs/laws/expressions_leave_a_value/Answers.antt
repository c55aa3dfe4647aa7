use Rattle.gen_expr.proofs.Depths.{expressions_are_deep}
use Rattle.gen_expr.proofs.laws.expressions_leave_a_value.Goals as goal

pub returns : goal.returns
returns c = expressions_are_deep
