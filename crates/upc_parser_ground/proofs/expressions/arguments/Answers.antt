use Rattle.upc_tree.specs.layer.View.{view_arguments}
use Rattle.upc_tree.proofs.Rows.{filled_is}
use Rattle.upc_parser_ground.proofs.Seen.{seen}
use Rattle.upc_parser_ground.proofs.expressions.arguments.Goals as goal

pub returns : goal.returns
returns c = seen view_arguments c.boxed.result _ _ (filled_is c.args.first c.args.more c.args.right) c.boxed.ensures
