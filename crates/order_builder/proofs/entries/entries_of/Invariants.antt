use Rattle.std.proofs.Common.{◌≡◌, map, take}
use Rattle.order_builder.specs.code.Views.{entry_in}
use Rattle.order_builder.proofs.entries.entries_of.Given as goal

abbrev pub invariant-loop-entry : goal.invariant-loop-entry
invariant-loop-entry l = l.entries.items ≡ map entry_in (take l.entry-index l.emitted)
