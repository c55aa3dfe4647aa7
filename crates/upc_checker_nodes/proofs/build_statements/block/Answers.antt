use Rattle.std.proofs.Common.{◌≡◌, IfOk, subst}
use Rattle.typed_tree.specs.Tree.{Stands, StatementKind}
use Rattle.typed_tree.specs.ViewStatements.{view_statement}
use Rattle.typed_tree.proofs.StatementRows.{block_is}
use Rattle.upc_checker_nodes.proofs.build_statements.block.Goals as goal

pub returns : goal.returns
returns c =
    subst (λ (kind : StatementKind). IfOk c.node.result (λ s. view_statement s.value ≡ Stands c.args.place kind))
    (block_is c.args.strict c.args.items) c.node.ensures
