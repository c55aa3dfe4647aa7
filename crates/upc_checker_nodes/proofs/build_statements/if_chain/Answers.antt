use Rattle.std.proofs.Common.{◌≡◌, IfOk, subst}
use Rattle.typed_tree.specs.Tree.{Stands, StatementKind}
use Rattle.typed_tree.specs.ViewStatements.{view_statement}
use Rattle.typed_tree.proofs.StatementRows.{if_is}
use Rattle.upc_checker_nodes.proofs.build_statements.if_chain.Goals as goal

pub returns : goal.returns
returns c =
    subst (λ (kind : StatementKind). IfOk c.node.result (λ s. view_statement s.value ≡ Stands c.args.place kind))
    (if_is c.args.arms c.args.last) c.node.ensures
