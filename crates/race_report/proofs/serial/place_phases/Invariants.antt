use Rattle.race_report.specs.code.Own.{ArePlaced}
use Rattle.race_report.proofs.serial.place_phases.Given as goal

abbrev pub invariant-loop-first : goal.invariant-loop-first
invariant-loop-first l = ArePlaced l.journal l.first-index l.order.items l.cursors.items
