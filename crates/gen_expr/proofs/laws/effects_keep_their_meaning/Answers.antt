use Rattle.gen_expr.proofs.Simulation.{effects_are_meant}
use Rattle.gen_expr.proofs.laws.effects_keep_their_meaning.Goals as goal

pub returns : goal.returns
returns c = effects_are_meant
