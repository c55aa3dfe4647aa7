use Rattle.upc_tree.specs.layer.View.{view}
use Rattle.upc_tree.proofs.Rows.{comma_is}
use Rattle.upc_parser_ground.proofs.Seen.{seen}
use Rattle.upc_parser_ground.proofs.expressions.comma.Goals as goal

pub returns : goal.returns
returns c = seen view c.boxed.result _ _ (comma_is c.args.first c.args.more) c.boxed.ensures
