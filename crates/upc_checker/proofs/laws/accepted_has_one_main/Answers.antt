use Rattle.upc_checker.proofs.Mains.{accepted_has_one}
use Rattle.upc_checker.proofs.laws.accepted_has_one_main.Goals as goal

pub returns : goal.returns
returns c = accepted_has_one
