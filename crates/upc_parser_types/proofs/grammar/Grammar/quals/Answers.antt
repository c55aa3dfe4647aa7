use Rattle.std.proofs.Common.{rules}
use Rattle.upc_tree.specs.layer.Lists.{quals_of}
use Rattle.upc_tree.specs.layer.View.{view_qual}
use Rattle.upc_parser_ground.specs.layer.Outcome.{starts}
use Rattle.upc_parser_ground.specs.layer.Tables.{is_qual}
use Rattle.upc_parser_types.specs.layer.Expression.{at_height, quals, qual}
use Rattle.upc_parser_ground.proofs.Ran.{ran_listed}
use Rattle.upc_parser_types.proofs.grammar.Grammar.quals.Goals as goal

pub returns : goal.returns
unfolding quals
returns g c = ran_listed view_qual (starts is_qual) (qual (at_height c.args.n)) _ (λ old new r p. search rules) quals_of c.args.tokens.now.rest.now c.many.result c.many.new.tokens.rest.now c.many.ensures
