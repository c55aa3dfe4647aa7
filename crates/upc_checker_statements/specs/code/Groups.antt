-- Statements in groups, as the code walks over them.
use Rattle.std.specs.Prelude.{Bool, true, false}
use Rattle.upc_tree.specs.Statement.{Statement, If, Switch, While, DoWhile, For, Forall, Value, Break, Continue}
use Rattle.upc_tree.specs.Statement.{Return, Barrier, Fence}

-- A statement without a scope of its own (C99 6.8.3, 6.8.6; UPC 6.6.1).
abbrev pub is_simple : Statement → Bool
is_simple (Value value semicolon) = true
is_simple (Break word semicolon) = true
is_simple (Continue word semicolon) = true
is_simple (Return word value semicolon) = true
is_simple (Barrier kind word value semicolon) = true
is_simple (Fence word semicolon) = true
is_simple x = false

-- An `if` with its arms (C99 6.8.4.1).
abbrev pub is_if : Statement → Bool
is_if (If word test body more last) = true
is_if x = false

-- A statement that is a scope of its own, other than a compound one (C99 6.8.4, 6.8.5; UPC 6.6.2).
abbrev pub is_scoped : Statement → Bool
is_scoped (If word test body more last) = true
is_scoped (Switch word test left items right) = true
is_scoped (While word test body) = true
is_scoped (DoWhile word body until test semicolon) = true
is_scoped (For word head body) = true
is_scoped (Forall word head body) = true
is_scoped x = false
