-- What a function that parses statements is given.
use Rattle.std.specs.Prelude.{ℕ, ◌<◌, ◌≤◌, Result, Box}
use Rattle.std.specs.declared.alloc.Global.{Global}
use denote.Ref.{MutBor}
use Rattle.upc_tree.specs.declared.statement.Statement.{Statement}
use Rattle.upc_tree.specs.layer.ViewStatement.{view_statement}
use Rattle.upc_parser_ground.specs.declared.cursor.Tokens.{Tokens}
use Rattle.upc_parser_ground.specs.declared.cursor.Fail.{Fail}
use Rattle.upc_parser_ground.specs.layer.Run.{Reads, boxed}
use Rattle.upc_parser_statements.specs.layer.Parse.{statements_at}

-- A function value that parses statements of at most this height.
pub record Nests (height : ℕ) (pre : Global → MutBor Tokens → ℕ → Type 0) (post : Global → MutBor Tokens → ℕ
    → Result (Box Statement Global) Fail → MutBor Tokens → Type 0) : Type 0 where
  pub small : height < 4294967295
  pub callable : (alloc : Global) (old : MutBor Tokens) (h : ℕ) → h ≤ height → pre alloc old h
  pub reads : (alloc : Global) (old new : MutBor Tokens) (h : ℕ) (r : Result (Box Statement Global) Fail)
      → post alloc old h r new
      → Reads (boxed view_statement) ((statements_at h).statement old.now.rest.now) r new.now.rest.now
