use Rattle.std.proofs.Common.{rules}
use Rattle.upc_parser_ground.specs.layer.Outcome.{starts}
use Rattle.upc_parser_ground.specs.layer.Tables.{is_string}
use Rattle.upc_parser_ground.specs.layer.Outcome.{string}
use Rattle.upc_parser_types.specs.layer.Expression.{strings}
use Rattle.upc_parser_ground.proofs.Ran.{ran_same}
use Rattle.upc_parser_expressions.proofs.expression.strings.Goals as goal

pub returns : goal.returns
unfolding strings
returns c = ran_same (starts is_string) string _ (λ old new r p. search rules) c.args.tokens.now.rest.now c.many.result c.many.new.tokens.rest.now c.many.ensures
