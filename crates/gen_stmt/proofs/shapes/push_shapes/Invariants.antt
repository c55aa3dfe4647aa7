use Rattle.std.proofs.Common.{◌≡◌, ◌++◌, map, drop}
use Rattle.typed_tree.specs.ViewStatements.{view_object}
use Rattle.source_meaning.specs.Statements.{shapes_of}
use Rattle.gen_expr.specs.layer.Sources.{running_of}
use Rattle.gen_expr.specs.layer.ViewSource.{view_source}
use Rattle.gen_stmt.proofs.shapes.push_shapes.Given as goal

abbrev pub invariant-loop-object : goal.invariant-loop-object
invariant-loop-object l =
    l.shapes.items
    ++ shapes_of (running_of (view_source l.source)) (map view_object (drop l.object-index l.objects))
    ≡ l.initial.shapes.items ++ shapes_of (running_of (view_source l.source)) (map view_object l.objects)
