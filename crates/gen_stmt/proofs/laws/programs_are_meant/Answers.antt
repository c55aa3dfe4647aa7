use Rattle.gen_expr.proofs.Simulation.{expressions_are_meant, effects_are_meant}
use Rattle.gen_stmt.proofs.Courses.{program_means}
use Rattle.gen_stmt.proofs.laws.programs_are_meant.Goals as goal

pub returns : goal.returns
returns c = λ program. program_means (expressions_are_meant, effects_are_meant) program
