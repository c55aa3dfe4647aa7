-- The bodies of functions that are blocks.
use Rattle.std.specs.Prelude.{Bool, true, false}
use Rattle.typed_tree.specs.Tree.{Statement, Stands, StatementKind, Block}

-- A statement of this kind is a block (C99 6.8.2).
abbrev pub is_block_kind : StatementKind → Bool
is_block_kind (Block strict items) = true
is_block_kind kind = false

-- A statement is a block (C99 6.8.2).
abbrev pub is_block : Statement → Bool
is_block (Stands at kind) = is_block_kind kind
