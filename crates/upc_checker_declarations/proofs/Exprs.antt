-- Lists of expressions with types.
use Rattle.std.proofs.Common.{◌≡◌, List, [], ◌∷◌, map, refl, ap}
use Rattle.typed_tree.specs.declared.tree.Expr.{Expr}
use Rattle.typing_rules.specs.Nodes.{Attr}
use Rattle.typed_tree.specs.Tree.{NoExprs, AndExpr, exprs_of, attrs_of}
use Rattle.typed_tree.specs.ViewTree.{attr_seen}
use Rattle.typed_tree.specs.ViewTree.{view_expr}
use Rattle.upc_checker_scopes.proofs.Turns.{behind}

-- What expressions in a vector are.
pub attrs_seen : (xs : List Expr) → map attr_seen xs ≡ attrs_of (exprs_of (map view_expr xs))
attrs_seen [] = refl
attrs_seen (x ∷ xs) = ap (λ (l : List Attr). attr_seen x ∷ l) (attrs_seen xs)

-- Expressions in a vector, one after another.
pub exprs_behind : (xs : List Expr) → behind AndExpr (map view_expr xs) NoExprs ≡ exprs_of (map view_expr xs)
exprs_behind [] = refl
exprs_behind (x ∷ xs) = ap (AndExpr (view_expr x)) (exprs_behind xs)
