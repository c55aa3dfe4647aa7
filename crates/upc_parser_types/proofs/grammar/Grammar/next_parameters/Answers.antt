use Rattle.std.proofs.Common.{rules}
use Rattle.upc_lexer.specs.declared.token.Punct.TheVariants as p
use Rattle.upc_tree.specs.layer.Lists.{next_parameters_of}
use Rattle.upc_tree.specs.layer.View.{view_next_parameter}
use Rattle.upc_parser_ground.specs.layer.Outcome.{starts, is_punct}
use Rattle.upc_parser_types.specs.layer.Expression.{at_height, next_parameters, next_parameter}
use Rattle.upc_parser_ground.proofs.Ran.{ran_listed}
use Rattle.upc_parser_types.proofs.grammar.Grammar.next_parameters.Goals as goal

pub returns : goal.returns
unfolding next_parameters
returns g c = ran_listed view_next_parameter (starts (is_punct p.Comma)) (next_parameter (at_height c.args.n)) _ (λ old new r p. search rules) next_parameters_of c.args.tokens.now.rest.now c.many.result c.many.new.tokens.rest.now c.many.ensures
