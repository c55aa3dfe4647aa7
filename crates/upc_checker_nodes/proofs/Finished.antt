-- Nodes of expressions that are finished, and where they are refused.
use Rattle.std.proofs.Common.{Box, Global, ◌≡◌, ℕ, List, [], ◌∷◌, map, Bool, true, false, Option, None, Result, Ok, Err, refl, sym, ap, ◌∙◌, subst}
use Rattle.upc_text.specs.declared.place.Place.{Place}
use Rattle.upc_text.specs.declared.faults.Stop.{Stop}
use Rattle.typing_rules.specs.declared.attribute.Attr.{Attr as RustAttr}
use Rattle.typing_rules_checks.specs.declared.reached.MemberNode.{MemberNode}
use Rattle.typed_tree.specs.declared.tree.Expr.{Expr as RustExpr}
use Rattle.typing_rules.specs.Attributes.{Facts, attr}
use Rattle.typing_rules.specs.Nodes as n
use Rattle.integers.specs.declared.operator.BinOp.{BinOp}
use Rattle.typing_rules.specs.declared.setting.SizeOperator.{SizeOperator}
use Rattle.typing_rules.specs.Nodes.{Node, Attr, Use, Formed, view_attr}
use Rattle.typing_rules.specs.Rules.{lowest, or_above, is_loose, has_no_size, moves_loosely}
use Rattle.typed_tree.specs.Tree.{ExprKind, Is, exprs_of, attrs_of}
use Rattle.typed_tree.specs.ViewTree.{attr_seen}
use Rattle.typed_tree.specs.ViewTree.{view_expr}
use Rattle.upc_checker_scopes.specs.layer.Finishes.{Refuses, Judges, Finishes}
use Rattle.upc_checker_nodes.specs.code.ViewJudged.{JudgesMember}

-- The lowest rule that a node breaks is answered.
pub refuses : (φ : Facts) (at : Place) (x : Node) (rule : Option ℕ) (r : Result RustAttr Stop) (e y : Stop) → r ≡ Err y → y ≡ e → rule ≡ lowest φ x → Refuses rule at e → Judges φ at x r
refuses φ at x rule r e y f g h s = rw (f, g) (subst (λ o. Refuses o at e) h s)

pub refuses_member : (φ : Facts) (at : Place) (x : Node) (index : ℕ) (rule : Option ℕ) (r : Result MemberNode Stop) (e y : Stop) → r ≡ Err y → y ≡ e → rule ≡ lowest φ x → Refuses rule at e → JudgesMember φ at x index r
refuses_member φ at x index rule r e y f g h s = rw (f, g) (subst (λ o. Refuses o at e) h s)

-- The node meets its rules, and is this.
pub judges : (φ : Facts) (at : Place) (x : Node) (rule : Option ℕ) (a : RustAttr) → rule ≡ lowest φ x → rule ≡ None → view_attr a ≡ attr φ x → Judges φ at x (Ok a)
judges φ at x rule a h m f = (sym h ∙ m, f)

-- It stands in the tree.
pub built : (φ : Facts) (at : Place) (x : Node) (kind : ExprKind) (a : RustAttr) (e : Box RustExpr Global) →
    Judges φ at x (Ok a) → view_expr e.value ≡ Is at (view_attr a) kind → Finishes φ at x kind (Ok e)
built φ at x kind a e h g = (h.0, g ∙ ap (λ b. Is at b kind) h.1)

pub unbuilt : (φ : Facts) (at : Place) (x : Node) (kind : ExprKind) (r : Result (Box RustExpr Global) Stop) (e y : Stop) → r ≡ Err y → y ≡ e → Judges φ at x (Err e) → Finishes φ at x kind r
unbuilt φ at x kind r e y f g h = rw (f, g) h

-- What the expressions of a list are.
pub seen_attrs : (xs : List RustExpr) → map attr_seen xs ≡ attrs_of (exprs_of (map view_expr xs))
seen_attrs [] = refl
seen_attrs (x ∷ xs) = ap (λ l. attr_seen x ∷ l) (seen_attrs xs)

-- ---- what has a size where its rules are met

first : (n : ℕ) (a : Bool) (rest : Option ℕ) → or_above n a rest ≡ None → (a ≡ false) × (rest ≡ None)
first n false rest h = (refl, h)
first n true rest h = absurd cc

pub subscript_sized : (φ : Facts) (how : Use) (a i : Attr) → lowest φ (n.Subscript how a i) ≡ None → is_loose φ.structs a ≡ false
subscript_sized φ how a i h = (first 15 (is_loose φ.structs a) _ (first 14 _ _ h).1).0

pub moves_sized : (φ : Facts) (op : BinOp) (a b : Attr) → lowest φ (n.Binary op a b) ≡ None → moves_loosely φ.structs op a b ≡ false
moves_sized φ op a b h = (first 15 (moves_loosely φ.structs op a b) _ (first 14 _ _ h).1).0

pub size_sized : (φ : Facts) (op : SizeOperator) (a : Attr) → lowest φ (n.SizeOf op a) ≡ None → has_no_size φ.structs op a.ctype ≡ false
size_sized φ op a h = (first 21 (has_no_size φ.structs op a.ctype) _ h).0

pub type_sized : (φ : Facts) (op : SizeOperator) (t : Formed) → lowest φ (n.SizeOfType op t) ≡ None → has_no_size φ.structs op t.ctype ≡ false
type_sized φ op t h = (first 21 (has_no_size φ.structs op t.ctype) _ (first 6 _ _ (first 4 _ _ h).1).1).0
