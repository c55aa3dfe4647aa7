use Rattle.std.proofs.Common.{◌≡◌, ◌++◌}
use Rattle.replica_space_orders.specs.code.Strict.{strict_names}
use Rattle.replica_space_orders.proofs.strict.strict_order.Given as goal

abbrev pub invariant-loop-event : goal.invariant-loop-event
invariant-loop-event l = l.names.items ++ strict_names l.event-iterator ≡ strict_names l.events
