use Rattle.std.proofs.Common.{◌≡◌, IfOk, subst}
use Rattle.typing_rules.specs.Nodes.{view_attr}
use Rattle.typed_tree.specs.Tree.{Is, ExprKind}
use Rattle.typed_tree.specs.ViewTree.{view_expr}
use Rattle.typed_tree.proofs.Built.{call_is}
use Rattle.upc_checker_nodes.proofs.build.call.Goals as goal

pub returns : goal.returns
returns c =
    subst (λ (kind : ExprKind). IfOk c.node.result
    (λ e. view_expr e.value ≡ Is c.args.place (view_attr c.args.attr) kind))
    (call_is c.args.target c.args.args) c.node.ensures
