-- The constants of a list in braces.
use Rattle.std.proofs.Common.{◌≡◌, ℕ, zero, suc, List, [], ◌∷◌, map, take, refl, ap}
use Rattle.typed_tree.specs.declared.tree.Expr.{Expr}
use Rattle.typing_rules.specs.declared.attribute.Constant.{Constant}
use Rattle.typing_rules.specs.Attributes.{constant_of}
use Rattle.typed_tree.specs.Tree.{exprs_of, attrs_of}
use Rattle.typed_tree.specs.ViewTree.{attr_seen}
use Rattle.typed_tree.specs.ViewTree.{view_expr}

pub listed_is : (n : ℕ) (es : List Expr) → map (λ e. constant_of (attr_seen e)) (take n es)
    ≡ take n (map constant_of (attrs_of (exprs_of (map view_expr es))))
listed_is zero es = refl
listed_is (suc n) [] = refl
listed_is (suc n) (e ∷ es) = ap (λ (cs : List Constant). constant_of (attr_seen e) ∷ cs) (listed_is n es)
