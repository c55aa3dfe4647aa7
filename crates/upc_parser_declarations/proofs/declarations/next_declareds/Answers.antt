use Rattle.std.proofs.Common.{rules}
use Rattle.upc_lexer.specs.declared.token.Punct.TheVariants as p
use Rattle.upc_tree.specs.layer.Lists.{next_declareds_of}
use Rattle.upc_tree.specs.layer.ViewStatement.{view_next_declared}
use Rattle.upc_parser_ground.specs.layer.Outcome.{starts, is_punct}
use Rattle.upc_parser_ground.proofs.Ran.{ran_listed}
use Rattle.upc_parser_declarations.specs.layer.Parse.{next_declareds, next_declared}
use Rattle.upc_parser_declarations.proofs.declarations.next_declareds.Goals as goal

pub returns : goal.returns
unfolding next_declareds
returns c = ran_listed view_next_declared (starts (is_punct p.Comma)) (next_declared c.args.n) _ (λ old new r p. search rules) next_declareds_of c.args.tokens.now.rest.now c.many.result c.many.new.tokens.rest.now c.many.ensures
