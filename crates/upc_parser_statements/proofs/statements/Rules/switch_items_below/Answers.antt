use Rattle.std.proofs.Common.{◌≡◌, ap, arith}
use Rattle.upc_parser_ground.proofs.Turns.{deeper}
use Rattle.upc_parser_statements.specs.layer.Parse.{statements_at}
use Rattle.upc_parser_statements.proofs.statements.Rules.switch_items_below.Goals as goal

pub returns-then-n-eq0 : goal.returns-then-n-eq0
unfolding statements_at
returns-then-n-eq0 g c = let none : c.args.n ≡ 0 = omega arith in ap (λ n. (statements_at n).switch_items c.args.tokens.now.rest.now) none

pub returns : goal.returns
unfolding statements_at
returns g c = rw (deeper (λ n. (statements_at n).switch_items c.args.tokens.now.rest.now) c.args.n (omega arith)) c.switch_items.ensures
