-- Operations by their names, and lists of them by their numbers.
use Rattle.std.specs.Prelude.{ℕ, ◌≡◌, ◌≢◌, ◌<◌, ◌⊎◌, Bool, true, false, List, length, map, slice_index_or}
use Rattle.upc_values.specs.declared.order.Op.{Op}
use Rattle.upc_values.specs.Lists.{Each, Has, Pairwise}
use Rattle.upc_values.specs.Scalars.{zero}
use Rattle.upc_values.specs.Operations.{Operation, Sync}
use Rattle.upc_values.specs.Orders.{rank, name_of}
use Rattle.upc_values.specs.Consistent.{IsOrderOf}
use Rattle.upc_verify_orders.specs.code.Tables.{op_rank}
use Rattle.upc_verify_orders.specs.declared.part.Part.{Part}
use Rattle.upc_verify_orders.specs.layer.Parts.{IsPartOf}

-- An operation stands before the one with this name, where threads stand one after another.
abbrev pub IsBefore : Operation → Op → Type 0
IsBefore o n = (o.thread < n.thread) ⊎ ((o.thread ≡ n.thread) × (rank o < op_rank n))

-- The operations stand by threads, those of a thread in program order.
abbrev pub AreSorted : List Operation → Type 0
AreSorted operations = Pairwise (λ a b. IsBefore a (name_of b)) operations

-- What stands for an operation that is missing.
abbrev pub nothing : Operation
nothing = record { thread = 0; index = 0; write = false; strict = false; place = Sync; value = zero }

-- The operations with these numbers.
abbrev pub taken : List Operation → List ℕ → List Operation
taken operations at = map (λ i. slice_index_or operations i nothing) at

-- The numbers are of members.
abbrev pub AreWithin : List Operation → List ℕ → Type 0
AreWithin operations at = Each (λ i. i < length operations) at

-- The members with these numbers have these names.
pub record AreFound (operations : List Operation) (names : List Op) (at : List ℕ) : Type 0 where
  pub within : AreWithin operations at
  pub named : map name_of (taken operations at) ≡ names

-- They are all of the part.
pub record IsPartFound (part : Part) (operations : List Operation) (names : List Op) (at : List ℕ) : Type 0 where
  pub found : AreFound operations names at
  pub whole : IsOrderOf (IsPartOf part operations) (taken operations at)

-- No list of the part has these names.
abbrev pub HasNoOrder : Part → List Operation → List Op → Type 0
HasNoOrder part operations names =
    (list : List Operation) → map name_of list ≡ names → IsOrderOf (IsPartOf part operations) list → ⊥

-- No number stands twice.
abbrev pub AreApart : List ℕ → Type 0
AreApart at = Pairwise (λ a b. a ≢ b) at

-- The marks are at these numbers, none of which stands twice.
pub record IsMarked (many : ℕ) (at : List ℕ) (marks : List Bool) : Type 0 where
  pub length_is : length marks ≡ many
  pub apart : AreApart at
  pub only : (i : ℕ) → slice_index_or marks i false ≡ true → Has at i
  pub has : (i : ℕ) → Has at i → slice_index_or marks i false ≡ true
