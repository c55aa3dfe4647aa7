use Rattle.upc_tree.specs.layer.View.{view_parameter}
use Rattle.upc_parser_ground.proofs.Seen.{seen}
use Rattle.upc_parser_ground.proofs.Rolled.{parametric_is}
use Rattle.upc_parser_ground.proofs.expressions.parameter.Goals as goal

pub returns : goal.returns
returns c = seen view_parameter c.boxed.result _ _ (parametric_is c.args.specs c.args.pointers c.args.name c.args.array) c.boxed.ensures
