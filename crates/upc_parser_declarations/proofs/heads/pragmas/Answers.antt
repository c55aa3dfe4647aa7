use Rattle.std.proofs.Common.{rules}
use Rattle.upc_parser_ground.specs.layer.Outcome.{starts}
use Rattle.upc_parser_ground.specs.layer.Ahead.{is_pragma}
use Rattle.upc_parser_ground.proofs.Ran.{ran_same}
use Rattle.upc_parser_declarations.specs.layer.Parse.{pragma, pragmas}
use Rattle.upc_parser_declarations.proofs.heads.pragmas.Goals as goal

pub returns : goal.returns
unfolding pragmas
returns c = ran_same (starts is_pragma) pragma _ (λ old new r p. search rules) c.args.tokens.now.rest.now c.many.result c.many.new.tokens.rest.now c.many.ensures
