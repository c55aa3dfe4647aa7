use Rattle.gen_expr.proofs.Simulation.{expressions_are_meant}
use Rattle.gen_expr.proofs.laws.expressions_keep_their_meaning.Goals as goal

pub returns : goal.returns
returns c = expressions_are_meant
