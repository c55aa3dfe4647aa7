use Rattle.gen_expr.proofs.Depths.{effects_are_deep}
use Rattle.gen_expr.proofs.laws.effects_leave_nothing.Goals as goal

pub returns : goal.returns
returns c = effects_are_deep
