use Rattle.std.proofs.Common.{◌≡◌, ◌++◌, map, drop}
use Rattle.typed_tree.specs.Tree.{exprs_of}
use Rattle.typed_tree.specs.ViewTree.{view_expr}
use Rattle.gen_expr.specs.layer.ViewSource.{view_source}
use Rattle.gen_expr.specs.layer.Codes.{arguments_code, last_code, effects_code}
use Rattle.gen_expr.proofs.expressions.+expression_code.Given as goal

abbrev pub invariant-put_arguments-loop-i : goal.invariant-put_arguments-loop-i
invariant-put_arguments-loop-i l =
    l.code.items
    ++ arguments_code (view_source l.source) l.strict l.rest (exprs_of (map view_expr (drop l.i l.args)))
    ≡ l.initial.code.items
    ++ arguments_code (view_source l.source) l.strict l.casts (exprs_of (map view_expr (drop l.first l.args)))

abbrev pub invariant-put_parts-loop-i : goal.invariant-put_parts-loop-i
invariant-put_parts-loop-i l =
    l.code.items
    ++ last_code (view_source l.source) l.strict l.fn.place (exprs_of (map view_expr (drop l.i l.parts)))
    ≡ l.initial.code.items ++ last_code (view_source l.source) l.strict l.fn.place (exprs_of (map view_expr l.parts))

abbrev pub invariant-put_effects-loop-i : goal.invariant-put_effects-loop-i
invariant-put_effects-loop-i l =
    l.code.items ++ effects_code (view_source l.source) l.strict (exprs_of (map view_expr (drop l.i l.parts)))
    ≡ l.initial.code.items ++ effects_code (view_source l.source) l.strict (exprs_of (map view_expr l.parts))
