use Rattle.upc_tree.specs.layer.ViewStatement.{view_statement}
use Rattle.upc_tree.proofs.StatementRows.{compound_is}
use Rattle.upc_parser_ground.proofs.Seen.{seen}
use Rattle.upc_parser_ground.proofs.statements.block.Goals as goal

pub returns : goal.returns
returns c = seen view_statement c.boxed.result _ _ (compound_is c.args.compound) c.boxed.ensures
