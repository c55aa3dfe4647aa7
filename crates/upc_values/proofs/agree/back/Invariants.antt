use Rattle.upc_values.specs.Agrees.{IsPlace}
use Rattle.upc_values.proofs.agree.back.Given as goal

abbrev pub invariant-loop-place : goal.invariant-loop-place
invariant-loop-place l = IsPlace l.items l.place.at l.place.number

abbrev pub decreases-loop-place : goal.decreases-loop-place
decreases-loop-place l = l.place.at
