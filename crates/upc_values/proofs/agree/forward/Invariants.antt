use Rattle.std.proofs.Common.{◌≤◌, ◌-◌, length}
use Rattle.upc_values.specs.Agrees.{IsPlace}
use Rattle.upc_values.proofs.agree.forward.Given as goal

abbrev pub invariant-loop-place : goal.invariant-loop-place
invariant-loop-place l = IsPlace l.items l.place.at l.place.number × (l.place.number ≤ l.number)

abbrev pub decreases-loop-place : goal.decreases-loop-place
decreases-loop-place l = length l.items - l.place.at
