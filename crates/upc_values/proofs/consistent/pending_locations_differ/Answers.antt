use Rattle.upc_values.proofs.Apart.{pending-apart}
use Rattle.upc_values.proofs.consistent.pending_locations_differ.Goals as goal

pub returns : goal.returns
returns c = pending-apart
