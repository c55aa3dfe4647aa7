use Rattle.upc_checker.proofs.UnitSaid.{every_node}
use Rattle.upc_checker.proofs.laws.every_node_is_judged.Goals as goal

pub returns : goal.returns
returns c = every_node
