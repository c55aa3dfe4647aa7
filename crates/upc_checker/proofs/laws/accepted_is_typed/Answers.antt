use Rattle.upc_checker.proofs.Causes.{accepted}
use Rattle.upc_checker.proofs.laws.accepted_is_typed.Goals as goal

pub returns : goal.returns
returns c = accepted
