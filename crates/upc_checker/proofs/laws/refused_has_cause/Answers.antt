use Rattle.upc_checker.proofs.Causes.{refused}
use Rattle.upc_checker.proofs.laws.refused_has_cause.Goals as goal

pub returns : goal.returns
returns c = refused
