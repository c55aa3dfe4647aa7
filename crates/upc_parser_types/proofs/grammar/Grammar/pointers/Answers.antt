use Rattle.std.proofs.Common.{rules}
use Rattle.upc_lexer.specs.declared.token.Punct.TheVariants as p
use Rattle.upc_tree.specs.layer.Lists.{pointers_of}
use Rattle.upc_tree.specs.layer.View.{view_pointer}
use Rattle.upc_parser_ground.specs.layer.Outcome.{starts, is_punct}
use Rattle.upc_parser_types.specs.layer.Expression.{at_height, pointers, pointer}
use Rattle.upc_parser_ground.proofs.Ran.{ran_listed}
use Rattle.upc_parser_types.proofs.grammar.Grammar.pointers.Goals as goal

pub returns : goal.returns
unfolding pointers
returns g c = ran_listed view_pointer (starts (is_punct p.Star)) (pointer (at_height c.args.n)) _ (λ old new r p. search rules) pointers_of c.args.tokens.now.rest.now c.many.result c.many.new.tokens.rest.now c.many.ensures
