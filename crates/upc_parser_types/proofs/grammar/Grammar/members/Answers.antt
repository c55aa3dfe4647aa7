use Rattle.std.proofs.Common.{false, rules}
use Rattle.upc_tree.specs.layer.Lists.{members_of}
use Rattle.upc_tree.specs.layer.View.{view_member}
use Rattle.upc_parser_ground.specs.layer.Outcome.{starts}
use Rattle.upc_parser_ground.specs.layer.Tables.{is_spec}
use Rattle.upc_parser_types.specs.layer.Expression.{at_height, members, member}
use Rattle.upc_parser_ground.proofs.Ran.{ran_listed}
use Rattle.upc_parser_types.proofs.grammar.Grammar.members.Goals as goal

pub returns : goal.returns
unfolding members
returns g c = ran_listed view_member (starts (is_spec false)) (member (at_height c.args.n)) _ (λ old new r p. search rules) members_of c.args.tokens.now.rest.now c.many.result c.many.new.tokens.rest.now c.many.ensures
