-- Vectors of expressions inside expressions, seen as lists.
use Rattle.std.proofs.Common.{◌≡◌, List, map, refl, ap, ◌∙◌, Vec, Global}
use mathlib.Core.Former.{Count}
use Rattle.typed_tree.specs.declared.tree.Expr.{Expr}
use Rattle.typed_tree.specs.declared.tree.Target.{Target}
use Rattle.typed_tree.specs.declared.tree.ExprKind as k
use Rattle.typed_tree.specs.declared.tree.ExprKind.{ExprKind, Row_of-Expr, end_of-Expr, more_of-Expr}
use Rattle.typed_tree.specs.declared.tree.ExprKind.{items-the_row-Expr, items_hidden-the_row-Expr-0}
use Rattle.typing_rules.specs.Nodes.{view_attr}
use Rattle.typed_tree.specs.Tree as t
use Rattle.typed_tree.specs.Tree.{exprs_of}
use Rattle.typed_tree.specs.ViewTree.{view_kind, view_row, view_expr}

row : (n : _) (row : Row_of-Expr n) → view_row row ≡ exprs_of (map view_expr (items-the_row-Expr n row))
row n end_of-Expr = refl
row n (more_of-Expr at attr kind more) = ap (t.AndExpr (t.Is at (view_attr attr) (view_kind kind))) (row _ more)

row_is : (n : _) (r : Row_of-Expr n) (l : List Expr) → items-the_row-Expr n r ≡ l → view_row r
    ≡ exprs_of (map view_expr l)
row_is n r l e = row n r ∙ ap (λ l. exprs_of (map view_expr l)) e

abbrev row_of : ExprKind → (n : Count) × Row_of-Expr n
row_of (k.Call' target shape args) = (_, args)
row_of (k.Comma' shape parts) = (_, parts)
row_of _ = (_, end_of-Expr)

-- A call with its arguments.
pub call_is : (target : Target) (args : Vec Expr Global) → view_kind (k.Call target args)
    ≡ t.Call target (exprs_of (map view_expr args.items))
call_is target args =
    let r = row_of (k.Call target args) in
    ap (t.Call target) (row_is r.0 r.1 args.items (items_hidden-the_row-Expr-0 args))

-- A comma expression with its parts.
pub comma_is : (parts : Vec Expr Global) → view_kind (k.Comma parts) ≡ t.Comma (exprs_of (map view_expr parts.items))
comma_is parts =
    let r = row_of (k.Comma parts) in
    ap t.Comma (row_is r.0 r.1 parts.items (items_hidden-the_row-Expr-0 parts))
