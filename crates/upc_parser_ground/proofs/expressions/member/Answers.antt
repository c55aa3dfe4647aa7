use Rattle.upc_parser_ground.proofs.Rolled.{line_is}
use Rattle.upc_parser_ground.proofs.expressions.member.Goals as goal

pub returns : goal.returns
returns c = line_is c.args.specs c.args.first c.args.more c.args.semicolon
