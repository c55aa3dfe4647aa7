use Rattle.race_report_walk.specs.code.Walk.{HasWalked}
use Rattle.race_report_walk.proofs.walk.walk.Given as goal

abbrev pub invariant-loop-entry : goal.invariant-loop-entry
invariant-loop-entry l = HasWalked l.journal l.entry-iterator l.cursors.items l.tables l.cells
