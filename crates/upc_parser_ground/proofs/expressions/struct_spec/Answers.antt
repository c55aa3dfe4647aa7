use Rattle.upc_tree.proofs.Rows.{struct_is}
use Rattle.upc_parser_ground.proofs.expressions.struct_spec.Goals as goal

pub returns : goal.returns
returns c = struct_is c.args.word c.args.tag c.args.left c.args.members c.args.right
