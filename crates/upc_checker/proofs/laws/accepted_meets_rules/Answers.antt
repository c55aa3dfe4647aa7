use Rattle.upc_checker.proofs.TypedSources.{accepted_meets}
use Rattle.upc_checker.proofs.laws.accepted_meets_rules.Goals as goal

pub returns : goal.returns
returns c = accepted_meets
