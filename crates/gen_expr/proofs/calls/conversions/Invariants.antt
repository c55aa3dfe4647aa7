use Rattle.std.proofs.Common.{◌≡◌, ◌++◌, map, drop}
use Rattle.upc_types.specs.View.{view}
use Rattle.typed_tree.specs.Tree.{exprs_of}
use Rattle.typed_tree.specs.ViewTree.{view_expr}
use Rattle.source_meaning.specs.Types.{conversions}
use Rattle.source_meaning.specs.Expressions.{types_of}
use Rattle.gen_expr.proofs.calls.conversions.Given as goal

abbrev pub invariant-loop-a : goal.invariant-loop-a
invariant-loop-a l =
    l.casts.items ++ conversions (types_of (exprs_of (map view_expr (drop l.a-index l.args)))) (map view l.rest)
    ≡ conversions (types_of (exprs_of (map view_expr l.args))) (map view l.parameters)
