use Rattle.std.proofs.Common.{◌≡◌, drop}
use Rattle.upc_top_output.specs.Output.{first_stop}
use Rattle.upc_top_output.proofs.status.first_stop.Given as goal

abbrev pub invariant-loop-thread : goal.invariant-loop-thread
invariant-loop-thread l = first_stop 0 l.strands ≡ first_stop l.thread (drop l.thread l.strands)
