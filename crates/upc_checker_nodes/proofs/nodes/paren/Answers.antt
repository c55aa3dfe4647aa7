use Rattle.std.proofs.Common.{ap, ◌∙◌}
use Rattle.typed_tree.specs.declared.tree.Expr.{Expr}
use Rattle.typing_rules.specs.Nodes.{view_attr}
use Rattle.typed_tree.specs.Tree as k
use Rattle.typed_tree.specs.ViewTree.{view_expr}
use Rattle.upc_checker_nodes.proofs.nodes.paren.Goals as goal

pub returns : goal.returns
returns c =
    let inner = c.args.inner.value in
    c.in_ok-paren.ensures ∙ ap (λ a. k.Is c.args.at a (k.Paren (view_expr inner))) (c.in_ok-attr.ensures ∙ ap (λ (e : Expr). view_attr e.attr) c.deref.ensures)
