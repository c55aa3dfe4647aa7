-- How many arguments have a conversion.
use Rattle.std.proofs.Common.{◌≡◌, ◌<◌, ◌≤◌, List, [], ◌∷◌, length, map, refl, arith}
use Rattle.thread_steps.specs.declared.cast.CastTo.{CastTo}
use Rattle.typed_tree.specs.declared.tree.Expr.{Expr}
use Rattle.typed_tree.specs.Tree.{exprs_of}
use Rattle.typed_tree.specs.ViewTree.{view_expr}
use Rattle.gen_expr.specs.layer.Codes.{arguments_count}

-- Where the conversions are fewer.
pub fewer : (cs : List CastTo) (es : List Expr) → length cs < length es
    → length cs ≡ arguments_count cs (exprs_of (map view_expr es))
fewer [] es h = refl
fewer (c ∷ cs) [] h = absurd (omega arith)
fewer (c ∷ cs) (e ∷ es) h = omega (arith, fewer cs es (omega arith))

-- Where they are enough.
pub enough : (cs : List CastTo) (es : List Expr) → length es ≤ length cs
    → length es ≡ arguments_count cs (exprs_of (map view_expr es))
enough [] [] h = refl
enough [] (e ∷ es) h = absurd (omega arith)
enough (c ∷ cs) [] h = refl
enough (c ∷ cs) (e ∷ es) h = omega (arith, enough cs es (omega arith))
