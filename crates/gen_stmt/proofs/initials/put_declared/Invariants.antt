use Rattle.std.proofs.Common.{◌≡◌, ◌++◌, map, drop}
use Rattle.typed_tree.specs.ViewStatements.{view_object}
use Rattle.gen_expr.specs.layer.ViewSource.{view_source}
use Rattle.gen_stmt.specs.layer.Codes.{declared_code}
use Rattle.gen_stmt.proofs.initials.put_declared.Given as goal

abbrev pub invariant-loop-object : goal.invariant-loop-object
invariant-loop-object l =
    l.code.items ++ declared_code (view_source l.source) l.strict (map view_object (drop l.object-index l.objects))
    ≡ l.initial.code.items ++ declared_code (view_source l.source) l.strict (map view_object l.objects)
