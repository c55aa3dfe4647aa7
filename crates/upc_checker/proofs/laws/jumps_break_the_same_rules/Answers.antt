use Rattle.upc_checker.proofs.UnitSaid.{jumps_agree}
use Rattle.upc_checker.proofs.laws.jumps_break_the_same_rules.Goals as goal

pub returns : goal.returns
returns c = jumps_agree
