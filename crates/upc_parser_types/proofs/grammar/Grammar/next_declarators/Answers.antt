use Rattle.std.proofs.Common.{rules}
use Rattle.upc_lexer.specs.declared.token.Punct.TheVariants as p
use Rattle.upc_tree.specs.layer.Lists.{next_declarators_of}
use Rattle.upc_tree.specs.layer.View.{view_next_declarator}
use Rattle.upc_parser_ground.specs.layer.Outcome.{starts, is_punct}
use Rattle.upc_parser_types.specs.layer.Expression.{at_height, next_declarators, next_declarator}
use Rattle.upc_parser_ground.proofs.Ran.{ran_listed}
use Rattle.upc_parser_types.proofs.grammar.Grammar.next_declarators.Goals as goal

pub returns : goal.returns
unfolding next_declarators
returns g c = ran_listed view_next_declarator (starts (is_punct p.Comma)) (next_declarator (at_height c.args.n)) _ (λ old new r p. search rules) next_declarators_of c.args.tokens.now.rest.now c.many.result c.many.new.tokens.rest.now c.many.ensures
