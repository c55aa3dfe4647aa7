-- Statements that are judged after their parts (C99 6.8; UPC 6.6).
use Rattle.std.specs.Prelude.{List, [], ◌∷◌, Option, Some, None}
use Rattle.upc_text.specs.declared.place.Place.{Place}
use Rattle.typed_tree.specs.declared.tree.Synchronises.{Synchronises}
use Rattle.typed_tree.specs.Scopes.{Setting}
use Rattle.typed_tree.specs.Tree as typed
use Rattle.typed_tree.specs.Tree.{attr_of}
use Rattle.typing_rules.specs.Nodes as nodes
use Rattle.typing_rules.specs.Nodes.{Attr, Around}
use Rattle.upc_checker_scopes.specs.Walk.{Walk, give, ◌>>◌, judge}
pub use Rattle.typed_tree.specs.Words.{tests_of}

-- The node of a `return` with this value, or with none (C99 6.8.6.4).
abbrev pub returned_node : Around → Option typed.Expr → nodes.Node
returned_node c None = nodes.ReturnsNothing c
returned_node c (Some a) = nodes.Returns c (attr_of a)

-- A `return` with this value, or with none, is judged and becomes a statement of the tree (C99 6.8.6.4).
abbrev pub returns : Setting → Around → Place → Option typed.Expr → Walk typed.Statement
returns ξ c place None = do
  judge ξ place (nodes.ReturnsNothing c)
  give (typed.Stands place (typed.Return None))
returns ξ c place (Some a) = do
  judge ξ place (nodes.Returns c (attr_of a))
  give (typed.Stands place (typed.Return (Some a)))

-- A barrier statement is judged by its value where it has one, and becomes a statement of the tree (UPC 6.6.1).
abbrev pub synchronise : Setting → Place → Synchronises → Option typed.Expr → Walk typed.Statement
synchronise ξ place how None = give (typed.Stands place (typed.Synchronise how None))
synchronise ξ place how (Some a) = do
  judge ξ place (nodes.Barrier (attr_of a))
  give (typed.Stands place (typed.Synchronise how (Some a)))
