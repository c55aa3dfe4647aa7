use Rattle.std.proofs.Common.{◌≡◌, ◌++◌, map, drop}
use Rattle.typed_tree.specs.Tree.{exprs_of}
use Rattle.typed_tree.specs.ViewTree.{view_expr}
use Rattle.source_meaning.specs.Types.{promotion}
use Rattle.source_meaning.specs.Expressions.{types_of}
use Rattle.gen_expr.proofs.calls.promotions.Given as goal

abbrev pub invariant-loop-a : goal.invariant-loop-a
invariant-loop-a l =
    l.casts.items ++ map promotion (types_of (exprs_of (map view_expr (drop l.a-index l.args))))
    ≡ map promotion (types_of (exprs_of (map view_expr l.args)))
