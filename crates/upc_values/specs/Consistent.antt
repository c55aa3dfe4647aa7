-- When orders make a set of operations UPC consistent (UPC Appendix B).
use Rattle.std.specs.Prelude.{ℕ, ◌≡◌, ◌≢◌, ◌<◌, Bool, true, false, ◌&&◌, ◌||◌, cond, List, [], ◌∷◌, ◌++◌, length, ◌⊎◌}
use Rattle.std.specs.Prelude.{Option, Some, None}
use Rattle.block_layout.specs.declared.place.Loc.{Loc}
use Rattle.upc_values.specs.declared.scalar.Scalar.{Scalar}
use Rattle.upc_values.specs.declared.journal.Entry.{Entry}
use Rattle.upc_values.specs.declared.journal.Journal.{Journal}
use Rattle.upc_values.specs.Scalars.{same_loc, zero, value_or}
use Rattle.upc_values.specs.Lists.{Numbered, Has, Pairwise}
use Rattle.upc_values.specs.Drain.{walked, drain, entries_of, or_else}
use Rattle.upc_values.specs.Openings.{Opening, initial_of}
use Rattle.upc_values.specs.History.{objects, IsLegal, EachBelow}
use Rattle.upc_values.specs.Operations.{Place, Cell, Sync, Operation}
use Rattle.upc_values.specs.Orders.{IsOf, StrictOrder, thread_order, is_shown, name_of, rank}

-- Two places are the same.
abbrev pub same_place : Place → Place → Bool
same_place (Cell l) (Cell k) = same_loc l k
same_place Sync Sync = true
same_place p q = false

-- The value of the last write of a place among some operations, if there is one.
abbrev pub last_write : Place → List Operation → Option Scalar
last_write p [] = None
last_write p (o ∷ os) = or_else (last_write p os) (cond (o.write && same_place o.place p) (Some o.value) None)

-- What a place begins with; that of the implied accesses begins with 0.
abbrev pub initial_at : (Loc → Scalar) → Place → Scalar
initial_at initial (Cell l) = initial l
initial_at initial Sync = zero

-- Each read of these operations, which stand after others, has the value of the last write before it on its place, or
-- the initial value if there is none.
abbrev pub ReadsLastFrom : (Loc → Scalar) → List Operation → List Operation → Type 0
ReadsLastFrom initial before [] = Unit {0}
ReadsLastFrom initial before (o ∷ os) =
    (o.write ≡ false → o.value ≡ value_or (last_write o.place before) (initial_at initial o.place))
    × ReadsLastFrom initial (before ++ o ∷ []) os

-- In an order each read has the value of the last write before it on its place, or the initial value if there is none
-- (UPC Appendix B).
abbrev pub ReadsLast : (Loc → Scalar) → List Operation → Type 0
ReadsLast initial order = ReadsLastFrom initial [] order

-- Two operations conflict: one of them is strict, or they are on one place and one is a write (UPC Appendix B).
abbrev pub conflict : Operation → Operation → Bool
conflict a b = (a.strict || b.strict) || (same_place a.place b.place && (a.write || b.write))

-- Two operations of thread t that conflict, of which a stands first, are in program order.
abbrev pub KeepsProgram : ℕ → Operation → Operation → Type 0
KeepsProgram t a b = a.thread ≡ t → b.thread ≡ t → conflict a b ≡ true → rank a < rank b

-- A list that has each operation of the set once, and no other.
pub record IsOrderOf (set : Operation → Type 0) (order : List Operation) : Type 0 where
  pub has : (o : Operation) → set o → Has order o
  pub only : (o : Operation) → Has order o → set o
  pub once : Pairwise (λ a b. name_of a ≢ name_of b) order

-- A strict order, and for each thread an order of its own operations, all writes and all strict reads, make the
-- operations UPC consistent (UPC Appendix B).
pub record IsConsistent (initial : Loc → Scalar) (threads : ℕ) (set : Operation → Type 0)
    (strict : Operation → Operation → Type 0) (order : ℕ → List Operation) : Type 0 where
  -- the strict order is a strict partial order, and each thread's is a total order of that set
  pub irreflexive : (a : Operation) → strict a a → ⊥
  pub transitive : (a b c : Operation) → strict a b → strict b c → strict a c
  pub total : (t : ℕ) → t < threads → IsOrderOf (λ o. set o × (is_shown t o ≡ true)) (order t)
  -- the strict order relates any two strict operations, and any two of one thread of which one is strict
  pub relates_strict :
      (a b : Operation) → set a → set b → (a ≢ b) → a.strict ≡ true → b.strict ≡ true → strict a b ⊎ strict b a
  pub relates_program :
      (a b : Operation) → set a → set b → (a ≢ b) → a.thread ≡ b.thread → (a.strict || b.strict) ≡ true
      → strict a b ⊎ strict b a
  -- each read has the value of the last write before it
  pub values : (t : ℕ) → t < threads → ReadsLast initial (order t)
  -- a thread's own operations that conflict stand in program order
  pub program : (t : ℕ) → t < threads → Pairwise (KeepsProgram t) (order t)
  -- no two operations stand the other way round than in the strict order
  pub agrees : (t : ℕ) → t < threads → Pairwise (λ a b. strict b a → ⊥) (order t)

-- The history has of each thread just the entries that its record emits through the write buffer, and the record agrees
-- with the buffer.
pub record FollowsBuffers (j : Journal) : Type 0 where
  pub many : length j.strands ≡ j.threads
  pub below : EachBelow j.threads j.history
  pub agrees : Numbered (λ t s. (walked t s.items).agrees ≡ true) j.strands
  pub drains : Numbered (λ t s. entries_of t j.history ≡ drain t s.items) j.strands

-- What a location begins with, in a run with this opening and history.
abbrev pub begins : Opening → List Entry → Loc → Scalar
begins o history l = value_or (initial_of o (objects o history) l) zero

-- The orders of a journal whose history takes the buffers' entries and is legal from the opening are consistent.
abbrev pub AreConsistent : Type 0
AreConsistent =
    (j : Journal) (o : Opening) → FollowsBuffers j → IsLegal o j.history
    → IsConsistent (begins o j.history) j.threads (IsOf j) (StrictOrder j) (thread_order j)
