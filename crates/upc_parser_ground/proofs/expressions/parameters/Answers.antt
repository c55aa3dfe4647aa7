use Rattle.upc_tree.specs.layer.View.{view_parameters}
use Rattle.upc_tree.proofs.Rows.{parameters_is}
use Rattle.upc_parser_ground.proofs.Seen.{seen}
use Rattle.upc_parser_ground.proofs.expressions.parameters.Goals as goal

pub returns : goal.returns
returns c = seen view_parameters c.boxed.result _ _ (parameters_is c.args.left c.args.first c.args.more c.args.right) c.boxed.ensures
