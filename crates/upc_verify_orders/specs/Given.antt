-- Orders that are given by the names of a journal's operations, and whether they satisfy UPC's memory model.
use Rattle.std.specs.Prelude.{ℕ, ◌≡◌, ◌<◌, ◌↔◌, true, List, [], map, slice_index_or}
use Rattle.block_layout.specs.declared.place.Loc.{Loc}
use Rattle.upc_values.specs.declared.scalar.Scalar.{Scalar}
use Rattle.upc_values.specs.declared.journal.Journal.{Journal}
use Rattle.upc_values.specs.declared.order.Op.{Op}
use Rattle.upc_values.specs.declared.order.Orders.{Orders}
use Rattle.upc_values.specs.Lists.{Pairwise}
use Rattle.upc_values.specs.Operations.{Operation}
use Rattle.upc_values.specs.Orders.{IsOf, name_of, is_shown}
use Rattle.upc_values.specs.Consistent.{ReadsLast, KeepsProgram, IsOrderOf, IsConsistent}
use Rattle.upc_verify_orders.specs.Strict.{StrictBy}

-- The names in the given order of thread t.
abbrev pub names_at : Orders → ℕ → List Op
names_at orders t = slice_index_or orders.threads t []

-- The given list names each strict operation once, and what it makes with program order is a strict order.
pub record GivenStrict (j : Journal) (orders : Orders) : Type 0 where
  -- the operations with these names
  pub list : List Operation
  pub named : map name_of list ≡ orders.strict
  -- each strict operation once, and no other
  pub whole : IsOrderOf (λ o. IsOf j o × (o.strict ≡ true)) list
  -- no operation stands before itself
  pub irreflexive : (a : Operation) → StrictBy (IsOf j) list a a → ⊥

-- The given order of thread t satisfies UPC's memory model with the strict order of this list (UPC Appendix B).
pub record GivenOrder (initial : Loc → Scalar) (j : Journal) (orders : Orders) (strict : List Operation)
    (t : ℕ) : Type 0 where
  -- the operations with these names
  pub order : List Operation
  pub named : map name_of order ≡ names_at orders t
  -- the thread's own operations, all writes and all strict reads, each once
  pub total : IsOrderOf (λ o. IsOf j o × (is_shown t o ≡ true)) order
  -- each read has the value of the last write before it
  pub values : ReadsLast initial order
  -- the thread's own operations that conflict stand in program order
  pub program : Pairwise (KeepsProgram t) order
  -- no two operations stand the other way round than in the strict order
  pub agrees : Pairwise (λ a b. StrictBy (IsOf j) strict b a → ⊥) order

-- What is asked of thread t: of thread 0 that the strict list is one, and of each thread that its order satisfies UPC's
-- memory model with it.
abbrev pub OrderHolds : (Loc → Scalar) → Journal → Orders → ℕ → Type 0
OrderHolds initial j orders t =
    (t ≡ 0 → GivenStrict j orders) × ((s : GivenStrict j orders) → GivenOrder initial j orders s.list t)

-- The order of thread t fails, and those of the threads below it do not.
pub record OrderBreaks (initial : Loc → Scalar) (j : Journal) (orders : Orders) (t : ℕ) : Type 0 where
  pub within : t < j.threads
  pub fails : OrderHolds initial j orders t → ⊥
  pub before : (u : ℕ) → u < t → OrderHolds initial j orders u

-- The order of each thread holds.
abbrev pub OrdersHold : (Loc → Scalar) → Journal → Orders → Type 0
OrdersHold initial j orders = (t : ℕ) → t < j.threads → OrderHolds initial j orders t

-- Operations with the names in the strict list and in the thread orders make the journal's operations UPC consistent,
-- with the strict order of that list (UPC Appendix B).
pub record AreConsistentOrders (initial : Loc → Scalar) (j : Journal) (orders : Orders) : Type 0 where
  pub strict : List Operation
  pub strict_names : map name_of strict ≡ orders.strict
  pub order : ℕ → List Operation
  pub order_names : (t : ℕ) → t < j.threads → map name_of (order t) ≡ names_at orders t
  pub whole : IsOrderOf (λ o. IsOf j o × (o.strict ≡ true)) strict
  pub consistent : IsConsistent initial j.threads (IsOf j) (StrictBy (IsOf j) strict) order

-- The orders of all threads hold just where there are such operations, for a journal of at least one thread.
abbrev pub OrdersAreConsistent : Type 0
OrdersAreConsistent =
    (initial : Loc → Scalar) (j : Journal) (orders : Orders) → 0 < j.threads
    → OrdersHold initial j orders ↔ AreConsistentOrders initial j orders
