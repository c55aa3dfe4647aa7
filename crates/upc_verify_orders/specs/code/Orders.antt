-- Orders by names, as the walks decide them.
use Rattle.std.specs.Prelude.{ℕ, ◌≤◌, ◌<◌, List, [], length, slice_index_or}
use Rattle.block_layout.specs.declared.place.Loc.{Loc}
use Rattle.upc_values.specs.declared.scalar.Scalar.{Scalar}
use Rattle.upc_values.specs.declared.order.Op.{Op}
use Rattle.upc_values.specs.Lists.{Pairwise}
use Rattle.upc_values.specs.Operations.{Operation}
use Rattle.upc_values.specs.Consistent.{ReadsLast, KeepsProgram}
use Rattle.upc_verify_orders.specs.declared.part.Part.TheVariants.{Strict, Shown}
use Rattle.upc_verify_orders.specs.code.Found.{IsPartFound, taken}
use Rattle.upc_verify_orders.specs.code.Tables.{InThread, reached, reaches}

-- The names are those of the strict operations, once each, and in program order.
pub record IsStrictFound (operations : List Operation) (names : List Op) : Type 0 where
  pub at : List ℕ
  pub found : IsPartFound Strict operations names at
  pub kept : Pairwise InThread names

-- The names are those of thread t's order: each read has the last value, program order and the strict list are kept.
pub record IsOrderFound (initial : Loc → Scalar) (operations : List Operation) (strict : List Op) (t : ℕ)
    (names : List Op) : Type 0 where
  pub at : List ℕ
  pub found : IsPartFound (Shown t) operations names at
  pub values : ReadsLast initial (taken operations at)
  pub program : Pairwise (KeepsProgram t) (taken operations at)
  pub walked : Pairwise (λ a b. reached strict a ≤ reaches strict b) names

-- The order of thread t is the first that is not so.
pub record FirstBroken (initial : Loc → Scalar) (operations : List Operation) (strict : List Op)
    (orders : List (List Op)) (t : ℕ) : Type 0 where
  pub within : t < length orders
  pub fails : IsOrderFound initial operations strict t (slice_index_or orders t []) → ⊥
  pub before : (u : ℕ) → u < t → IsOrderFound initial operations strict u (slice_index_or orders u [])
