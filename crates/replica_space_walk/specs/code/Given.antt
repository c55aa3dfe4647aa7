-- Orders by the names of a run's operations, and when they satisfy UPC's memory model.
use Rattle.std.specs.Prelude.{ℕ, ◌≡◌, ◌<◌, true, List, [], map, length, slice_index_or}
use Rattle.upc_values.specs.declared.order.Op.{Op}
use Rattle.upc_values.specs.declared.order.Orders.{Orders}
use Rattle.upc_values.specs.Operations.{Operation}
use Rattle.upc_values.specs.Orders.{name_of}
use Rattle.upc_values.specs.Openings.{Opening}
use Rattle.upc_values.specs.Consistent.{begins, IsOrderOf, IsConsistent}
use Rattle.upc_verify_orders.specs.Strict.{StrictBy}
use Rattle.replica_space.specs.declared.event.Event.{Event}
use Rattle.replica_space.specs.Events.{history_in}
use Rattle.replica_space.specs.ReplicaOrders.{replica_strict_list, replica_order}
use Rattle.replica_space_consistent.specs.Consistent.{IsIn}

-- The names of the strict list of these events.
abbrev pub strict_names : List Event → List Op
strict_names es = map name_of (replica_strict_list es)

-- The names of the order of thread t, of n threads.
abbrev pub thread_names : ℕ → List Event → ℕ → List Op
thread_names n es t = map name_of (replica_order n es t)

-- Operations with the names in the strict list and in the thread orders make the run's operations UPC consistent, with
-- the strict order of that list (UPC Appendix B).
pub record AreConsistentOrders (o : Opening) (es : List Event) (orders : Orders) : Type 0 where
  pub strict : List Operation
  pub strict_names : map name_of strict ≡ orders.strict
  pub whole : IsOrderOf (λ x. IsIn es x × (x.strict ≡ true)) strict
  pub order : ℕ → List Operation
  pub many : length orders.threads ≡ o.threads
  pub order_names : (t : ℕ) → t < o.threads → map name_of (order t) ≡ slice_index_or orders.threads t []
  pub consistent : IsConsistent (begins o (history_in es)) o.threads (IsIn es) (StrictBy (IsIn es) strict) order
