use Rattle.std.proofs.Common.{◌≡◌, ap, arith}
use Rattle.upc_parser_types.specs.layer.Expression.{at_height}
use Rattle.upc_parser_ground.proofs.Turns.{deeper}
use Rattle.upc_parser_expressions.proofs.knot.+knot.Goals as goal

pub expr-returns-then-height-eq0 : goal.expr-returns-then-height-eq0
unfolding at_height
expr-returns-then-height-eq0 t c = let none : c.args.height ≡ 0 = omega arith in ap (λ n. (at_height n).expr c.args.least c.args.tokens.now.rest.now) none

pub expr-returns : goal.expr-returns
unfolding at_height
expr-returns t c = rw (deeper (λ n. (at_height n).expr c.args.least c.args.tokens.now.rest.now) c.args.height (omega arith)) c.whole.ensures

pub structure-returns-then-height-eq0 : goal.structure-returns-then-height-eq0
unfolding at_height
structure-returns-then-height-eq0 t c = let none : c.args.height ≡ 0 = omega arith in ap (λ n. (at_height n).structure c.args.tokens.now.rest.now) none

pub structure-returns : goal.structure-returns
unfolding at_height
structure-returns t c = rw (deeper (λ n. (at_height n).structure c.args.tokens.now.rest.now) c.args.height (omega arith)) c.whole_structure.ensures
