use Rattle.upc_tree.specs.layer.View.{view_declarator}
use Rattle.upc_tree.proofs.Rows.{object_is}
use Rattle.upc_parser_ground.proofs.Seen.{seen}
use Rattle.upc_parser_ground.proofs.expressions.object.Goals as goal

pub returns : goal.returns
returns c = seen view_declarator c.boxed.result _ _ (object_is c.args.pointers c.args.name c.args.sizes) c.boxed.ensures
