use Rattle.std.proofs.Common.{◌≡◌, ◌++◌}
use Rattle.replica_space.specs.Events.{history_in}
use Rattle.upc_top_output.specs.Output.{output}
use Rattle.upc_top_output.proofs.text.events_text.Given as goal

abbrev pub invariant-loop-event : goal.invariant-loop-event
invariant-loop-event l = l.text.items ++ output (history_in l.event-iterator) ≡ output (history_in l.events)
