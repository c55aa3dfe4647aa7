use Rattle.run_recorder.proofs.Tables.{IsSoFar}
use Rattle.run_recorder.proofs.entries.places.Given as goal

abbrev pub invariant-loop-at : goal.invariant-loop-at
invariant-loop-at l = IsSoFar l.items l.at l.places.items
