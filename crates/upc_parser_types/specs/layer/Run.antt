-- What function values that parse the parts of an expression or a type ensure.
use Rattle.std.specs.Prelude.{◌<◌, ◌≤◌, ℕ, Result, Box}
use Rattle.std.specs.declared.alloc.Global.{Global}
use denote.Ref.{MutBor}
use Rattle.upc_tree.specs.declared.expression.Expr.{Expr}
use Rattle.upc_tree.specs.declared.expression.Spec.{Spec}
use Rattle.upc_tree.specs.layer.View.{view, view_spec}
use Rattle.upc_parser_ground.specs.declared.cursor.Tokens.{Tokens}
use Rattle.upc_parser_ground.specs.declared.cursor.Fail.{Fail}
use Rattle.upc_parser_ground.specs.layer.Run.{Reads, boxed}
use Rattle.upc_parser_types.specs.layer.Expression.{at_height}

-- Function values that parse expressions and structs of at most this height.
pub record Nests (height : ℕ) (pre : Global → MutBor Tokens → ℕ → ℕ → Type 0) (post : Global → MutBor Tokens → ℕ
    → ℕ → Result (Box Expr Global) Fail → MutBor Tokens → Type 0)
    (pre_struct : Global → MutBor Tokens → ℕ → Type 0) (post_struct : Global → MutBor Tokens → ℕ
    → Result Spec Fail → MutBor Tokens → Type 0) : Type 0 where
  pub small : height < 4294967295
  pub callable : (alloc : Global) (old : MutBor Tokens) (h least : ℕ) → h ≤ height → pre alloc old h least
  pub reads : (alloc : Global) (old new : MutBor Tokens) (h least : ℕ) (r : Result (Box Expr Global) Fail)
      → post alloc old h least r new
      → Reads (boxed view) ((at_height h).expr least old.now.rest.now) r new.now.rest.now
  pub callable_struct : (alloc : Global) (old : MutBor Tokens) (h : ℕ) → h ≤ height → pre_struct alloc old h
  pub reads_struct : (alloc : Global) (old new : MutBor Tokens) (h : ℕ) (r : Result Spec Fail)
      → post_struct alloc old h r new
      → Reads view_spec ((at_height h).structure old.now.rest.now) r new.now.rest.now
