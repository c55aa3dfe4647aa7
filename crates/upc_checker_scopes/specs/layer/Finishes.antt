-- What the code answers where the node of an expression is finished.
use Rattle.std.specs.Prelude.{◌≡◌, ℕ, Option, Some, None, Result, Ok, Err, Box}
use Rattle.std.specs.declared.alloc.Global.{Global}
use Rattle.upc_text.specs.declared.place.Place.{Place}
use Rattle.upc_text.specs.declared.place.Code.TheVariants.{Typing}
use Rattle.upc_text.specs.declared.faults.Stop.{Stop}
use Rattle.upc_text.specs.declared.faults.Stop.TheVariants as stop
use Rattle.typing_rules.specs.declared.attribute.Attr.{Attr as RustAttr}
use Rattle.typed_tree.specs.declared.tree.Expr.{Expr as RustExpr}
use Rattle.typing_rules.specs.Attributes.{Facts, attr}
use Rattle.typing_rules.specs.Nodes.{Node, view_attr}
use Rattle.typing_rules.specs.Rules.{lowest}
use Rattle.typed_tree.specs.Tree.{ExprKind, Is}
use Rattle.typed_tree.specs.ViewTree.{view_expr}

-- The code stops for want of memory, or with the refusal by this rule at this place.
abbrev pub Refuses : Option ℕ → Place → Stop → Type 0
Refuses rule at stop.Memory = Unit {0}
Refuses None at (stop.Refused refusal) = ⊥
Refuses (Some n) at (stop.Refused refusal) = refusal ≡ record { place = at; code = Typing n }

-- The node meets every rule, and this is what it is; else the lowest rule that it breaks is answered, or want of
-- memory.
abbrev pub Judges : Facts → Place → Node → Result RustAttr Stop → Type 0
Judges φ at x (Ok a) = (lowest φ x ≡ None) × (view_attr a ≡ attr φ x)
Judges φ at x (Err e) = Refuses (lowest φ x) at e

-- The node meets every rule, and the expression is what the node says; else the lowest rule that it breaks is
-- answered, or want of memory.
abbrev pub Finishes : Facts → Place → Node → ExprKind → Result (Box RustExpr Global) Stop → Type 0
Finishes φ at x kind (Ok e) = (lowest φ x ≡ None) × (view_expr e.value ≡ Is at (attr φ x) kind)
Finishes φ at x kind (Err e) = Refuses (lowest φ x) at e
