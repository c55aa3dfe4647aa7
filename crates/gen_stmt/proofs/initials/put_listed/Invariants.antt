use Rattle.std.proofs.Common.{◌≡◌, ◌++◌, map, drop}
use Rattle.typed_tree.specs.Tree.{exprs_of}
use Rattle.typed_tree.specs.ViewTree.{view_expr}
use Rattle.typed_tree.specs.ViewStatements.{view_object}
use Rattle.gen_expr.specs.layer.ViewSource.{view_source}
use Rattle.gen_stmt.specs.layer.Codes.{listed_code}
use Rattle.gen_stmt.proofs.initials.put_listed.Given as goal

abbrev pub invariant-loop-index : goal.invariant-loop-index
invariant-loop-index l =
    l.code.items
    ++ listed_code (view_source l.source) l.strict (view_object l.object) l.index
    (exprs_of (map view_expr (drop l.index l.values)))
    ≡ l.initial.code.items
    ++ listed_code (view_source l.source) l.strict (view_object l.object) 0 (exprs_of (map view_expr l.values))
