-- The orders of a run with a copy of the shared memory for each thread satisfy UPC's memory model.
use Rattle.std.specs.Prelude.{◌≡◌, true, List}
use Rattle.upc_values.specs.Lists.{Has}
use Rattle.upc_values.specs.Operations.{Operation}
use Rattle.upc_values.specs.Openings.{Opening}
use Rattle.upc_values.specs.Consistent.{begins, IsOrderOf, IsConsistent}
use Rattle.upc_verify_orders.specs.Strict.{StrictBy}
use Rattle.replica_space.specs.declared.event.Event.{Event}
use Rattle.replica_space.specs.Events.{history_in}
use Rattle.replica_space.specs.Runs.{IsReplicaRun}
use Rattle.replica_space.specs.ReplicaOrders.{operations_in, replica_order, replica_strict_list}

-- The operations of a run.
abbrev pub IsIn : List Event → Operation → Type 0
IsIn es o = Has (operations_in es) o

-- The strict list has each strict operation once, and with the strict order that it makes with program order the
-- threads' lists make the run's operations UPC consistent (UPC Appendix B).
pub record AreConsistentReplicas (o : Opening) (es : List Event) : Type 0 where
  pub whole : IsOrderOf (λ x. IsIn es x × (x.strict ≡ true)) (replica_strict_list es)
  pub consistent :
      IsConsistent (begins o (history_in es)) o.threads (IsIn es) (StrictBy (IsIn es) (replica_strict_list es))
      (replica_order o.threads es)

-- The orders of every replica run make its operations UPC consistent.
abbrev pub OrdersAreConsistent : Type 0
OrdersAreConsistent = (o : Opening) (es : List Event) → IsReplicaRun o es → AreConsistentReplicas o es
