use Rattle.upc_macros.proofs.DepthLemmas.{depth_enough}
use Rattle.upc_macros.proofs.lines.depth_is_enough.Goals as goal

pub returns : goal.returns
returns c = depth_enough
