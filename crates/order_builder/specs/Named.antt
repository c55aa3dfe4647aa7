-- Orders by the names of a journal's operations.
use Rattle.std.specs.Prelude.{ℕ, ◌≡◌, ◌<◌, true, List, [], length, map, slice_index_or}
use Rattle.std.specs.List.{range_with_len}
use Rattle.block_layout.specs.declared.place.Loc.{Loc}
use Rattle.upc_values.specs.declared.scalar.Scalar.{Scalar}
use Rattle.upc_values.specs.declared.action.Reply.{Reply}
use Rattle.upc_values.specs.declared.journal.Journal.{Journal}
use Rattle.upc_values.specs.declared.order.Op.{Op}
use Rattle.upc_values.specs.declared.order.Orders.{Orders}
use Rattle.upc_values.specs.Lists.{Precedes}
use Rattle.upc_values.specs.Operations.{Operation}
use Rattle.upc_values.specs.Orders.{IsOf, name_of, strict_list, thread_order, StrictOrder}
use Rattle.upc_values.specs.Openings.{Opening}
use Rattle.upc_values.specs.History.{IsLegal}
use Rattle.upc_values.specs.Outcomes.{Outcome}
use Rattle.upc_values.specs.Sound.{IsSound}
use Rattle.upc_values.specs.Consistent.{IsOrderOf, IsConsistent, FollowsBuffers, begins}

-- The names of a thread's order.
abbrev pub thread_names : Journal → ℕ → List Op
thread_names j t = map name_of (thread_order j t)

-- The strict order of a journal and the order of each thread, by number.
abbrev pub orders_of : Journal → Orders
orders_of j =
    record { strict = map name_of (strict_list j); threads = map (thread_names j) (range_with_len 0 j.threads) }

-- Lists of operations with these names, the first of them in the strict order, make the journal's operations UPC
-- consistent (UPC Appendix B).
pub record AreConsistentOrders (initial : Loc → Scalar) (j : Journal) (orders : Orders) : Type 0 where
  -- The strict operations, each once.
  pub strict : List Operation
  pub strict_names : map name_of strict ≡ orders.strict
  pub whole : IsOrderOf (λ o. IsOf j o × (o.strict ≡ true)) strict
  pub keeps : (a b : Operation) → Precedes strict a b → StrictOrder j a b
  -- The order of each thread.
  pub threads : ℕ → List Operation
  pub many : length orders.threads ≡ j.threads
  pub thread_names : (t : ℕ) → t < j.threads → map name_of (threads t) ≡ slice_index_or orders.threads t []
  pub consistent : IsConsistent initial j.threads (IsOf j) (StrictOrder j) threads

-- The orders of a journal whose history takes the buffers' entries and is legal from the opening are consistent.
abbrev pub LegalAreConsistent : Type 0
LegalAreConsistent =
    (j : Journal) (o : Opening) → FollowsBuffers j → IsLegal o j.history
    → AreConsistentOrders (begins o j.history) j (orders_of j)

-- The orders of a sound journal are consistent.
abbrev pub SoundAreConsistent : Type 0
SoundAreConsistent =
    (o : Opening) (outcome : (budget thread : ℕ) → List Reply → Outcome) (j : Journal) → IsSound o outcome j
    → AreConsistentOrders (begins o j.history) j (orders_of j)
