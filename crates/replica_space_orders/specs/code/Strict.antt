-- The names of the strict operations of a run with a copy of the shared memory for each thread.
use Rattle.std.specs.Prelude.{ℕ, List, map, filter}
use Rattle.upc_values.specs.declared.action.Action.{Action}
use Rattle.upc_values.specs.declared.action.Reply.{Reply}
use Rattle.upc_values.specs.declared.order.Op.{Op}
use Rattle.upc_values.specs.Operations.{accesses_of}
use Rattle.upc_values.specs.Orders.{name_of}
use Rattle.replica_space.specs.declared.event.Event.{Event}
use Rattle.replica_space.specs.ReplicaOrders.{replica_strict_list}

-- The names of the strict operations of action i of thread t.
abbrev pub strict_names_of : ℕ → ℕ → Action → Reply → List Op
strict_names_of t i a r = map name_of (filter (λ o. o.strict) (accesses_of t i a r))

-- The names of the strict list of these events.
abbrev pub strict_names : List Event → List Op
strict_names es = map name_of (replica_strict_list es)
