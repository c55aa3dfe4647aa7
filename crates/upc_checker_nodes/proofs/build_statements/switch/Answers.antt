use Rattle.std.proofs.Common.{◌≡◌, IfOk, subst}
use Rattle.typed_tree.specs.Tree.{Stands, StatementKind}
use Rattle.typed_tree.specs.ViewStatements.{view_statement}
use Rattle.typed_tree.proofs.StatementRows.{switch_is}
use Rattle.upc_checker_nodes.proofs.build_statements.switch.Goals as goal

pub returns : goal.returns
returns c =
    subst (λ (kind : StatementKind). IfOk c.node.result (λ s. view_statement s.value ≡ Stands c.args.place kind))
    (switch_is c.args.value c.args.items) c.node.ensures
