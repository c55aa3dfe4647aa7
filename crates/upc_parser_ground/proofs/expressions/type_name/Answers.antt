use Rattle.upc_tree.specs.layer.View.{view_type}
use Rattle.upc_parser_ground.proofs.Seen.{seen}
use Rattle.upc_parser_ground.proofs.Rolled.{typed_is}
use Rattle.upc_parser_ground.proofs.expressions.type_name.Goals as goal

pub returns : goal.returns
returns c = seen view_type c.boxed.result _ _ (typed_is c.args.specs c.args.pointers c.args.sizes) c.boxed.ensures
