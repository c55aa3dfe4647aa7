use Rattle.upc_tree.specs.layer.ViewStatement.{view_statement}
use Rattle.upc_tree.proofs.StatementRows.{if_is}
use Rattle.upc_parser_ground.proofs.Seen.{seen}
use Rattle.upc_parser_ground.proofs.statements.if_statement.Goals as goal

pub returns : goal.returns
returns c = seen view_statement c.boxed.result _ _ (if_is c.args.word c.args.test c.args.body c.args.more c.args.otherwise) c.boxed.ensures
