use Rattle.upc_tree.specs.layer.ViewStatement.{view_statement}
use Rattle.upc_tree.proofs.StatementRows.{switch_is}
use Rattle.upc_parser_ground.proofs.Seen.{seen}
use Rattle.upc_parser_ground.proofs.statements.switch.Goals as goal

pub returns : goal.returns
returns c = seen view_statement c.boxed.result _ _ (switch_is c.args.word c.args.test c.args.left c.args.body c.args.right) c.boxed.ensures
