use Rattle.std.proofs.Common.{◌≡◌, ap, arith}
use Rattle.upc_parser_ground.proofs.Turns.{deeper}
use Rattle.upc_parser_statements.specs.layer.Parse.{statements_at}
use Rattle.upc_parser_statements.proofs.knot.compound.Goals as goal

pub returns-then-height-eq0 : goal.returns-then-height-eq0
unfolding statements_at
returns-then-height-eq0 c = let none : c.args.height ≡ 0 = omega arith in ap (λ n. (statements_at n).compound c.args.tokens.now.rest.now) none

pub returns : goal.returns
unfolding statements_at
returns c = rw (deeper (λ n. (statements_at n).compound c.args.tokens.now.rest.now) c.args.height (omega arith)) c.compound.ensures
