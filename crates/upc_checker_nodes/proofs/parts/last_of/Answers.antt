use Rattle.std.proofs.Common.{◌≡◌, ℕ, zero, suc, ◌-◌, List, [], ◌∷◌, length, map, get_or, sym, ap, arith}
use Rattle.typed_tree.specs.declared.tree.Expr.{Expr}
use Rattle.typing_rules.specs.Nodes.{view_attr}
use Rattle.typed_tree.specs.Tree.{exprs_of}
use Rattle.typed_tree.specs.ViewTree.{view_expr}
use Rattle.upc_checker_nodes.specs.Parts.{last_of}
use Rattle.upc_checker_nodes.proofs.parts.last_of.Goals as goal

last_is : (x y : Expr) (xs : List Expr) (n : ℕ) → length xs ≡ suc n → y ≡ get_or xs n y → last_of (view_expr x) (exprs_of (map view_expr xs)) ≡ view_attr y.attr
last_is x y [] n h e = absurd (omega arith)
last_is x y (z ∷ []) zero h e = ap (λ (u : Expr). view_attr u.attr) (sym e)
last_is x y (z ∷ []) (suc n) h e = absurd (omega arith)
last_is x y (z ∷ (w ∷ ws)) zero h e = absurd (omega arith)
last_is x y (z ∷ (w ∷ ws)) (suc n) h e = last_is z y (w ∷ ws) n (omega arith) e

pub returns-in-len1-up : goal.returns-in-len1-up
returns-in-len1-up c = sym (last_is c.args.first.now c.last-item.result c.args.more.now (length c.args.more.now - 1) (omega arith) c.last-item.is)
