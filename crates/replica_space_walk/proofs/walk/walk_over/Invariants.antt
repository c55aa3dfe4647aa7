use Rattle.std.proofs.Common.{◌≡◌, ◌++◌, List}
use Rattle.replica_space.specs.declared.event.Event.{Event}
use Rattle.replica_space.specs.ReplicaOrders.{listed_after}
use Rattle.replica_space_walk.specs.code.Walking.{IsAt}
use Rattle.replica_space_walk.proofs.walk.walk_over.Given as goal

abbrev pub invariant-loop-event : goal.invariant-loop-event
invariant-loop-event l =
    (before : List Event) × (before ++ l.event-iterator ≡ l.events) × IsAt l.threads (listed_after l.threads before) l.walk
