use Rattle.std.proofs.Common.{◌≡◌, ◌++◌, drop}
use Rattle.typed_tree.specs.ViewStatements.{view_items}
use Rattle.source_meaning.specs.Statements.{shapes_of, objects_in}
use Rattle.gen_expr.specs.layer.Sources.{running_of}
use Rattle.gen_expr.specs.layer.ViewSource.{view_source}
use Rattle.gen_stmt.proofs.shapes.push_block_shapes.Given as goal

abbrev pub invariant-loop-item : goal.invariant-loop-item
invariant-loop-item l =
    l.shapes.items
    ++ shapes_of (running_of (view_source l.source)) (objects_in (view_items (drop l.item-index l.items)))
    ≡ l.initial.shapes.items ++ shapes_of (running_of (view_source l.source)) (objects_in (view_items l.items))
