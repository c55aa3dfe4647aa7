use Rattle.upc_values.proofs.Consistency.{all-consistent}
use Rattle.upc_values.proofs.consistent.orders_are_consistent.Goals as goal

pub returns : goal.returns
returns c = all-consistent
