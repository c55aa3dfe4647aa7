use Rattle.order_builder.specs.code.Views.{ArePlaced}
use Rattle.order_builder.proofs.history.place_all.Given as goal

abbrev pub invariant-loop-entry : goal.invariant-loop-entry
invariant-loop-entry l = ArePlaced l.journal l.entry-iterator l.names l.cursors.items
