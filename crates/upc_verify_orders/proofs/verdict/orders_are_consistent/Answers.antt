use Rattle.upc_verify_orders.proofs.Deciding.{are-consistent}
use Rattle.upc_verify_orders.proofs.verdict.orders_are_consistent.Goals as goal

pub returns : goal.returns
returns c = are-consistent
