use Rattle.std.proofs.Common.{◌≡◌, ap, arith}
use Rattle.upc_parser_types.specs.layer.Expression.{at_height}
use Rattle.upc_parser_ground.proofs.Turns.{deeper}
use Rattle.upc_parser_expressions.proofs.expression.Expressions.arguments.Goals as goal

pub returns-then-n-eq0 : goal.returns-then-n-eq0
unfolding at_height
returns-then-n-eq0 g c = let none : c.args.n ≡ 0 = omega arith in ap (λ n. (at_height n).arguments c.args.tokens.now.rest.now) none

pub returns : goal.returns
unfolding at_height
returns g c = rw (deeper (λ n. (at_height n).arguments c.args.tokens.now.rest.now) c.args.n (omega arith)) c.whole_arguments.ensures
