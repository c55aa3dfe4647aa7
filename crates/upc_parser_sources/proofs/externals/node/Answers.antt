use Rattle.std.proofs.Common.{◌≡◌, ap, arith}
use Rattle.upc_parser_ground.proofs.Turns.{deeper}
use Rattle.upc_parser_sources.specs.layer.Parse.{node_at}
use Rattle.upc_parser_sources.proofs.externals.node.Goals as goal

pub returns-then-height-eq0 : goal.returns-then-height-eq0
unfolding node_at
returns-then-height-eq0 c = let none : c.args.height ≡ 0 = omega arith in ap (λ n. node_at n c.args.tokens.now.rest.now) none

pub returns : goal.returns
unfolding node_at
returns c = rw (deeper (λ n. node_at n c.args.tokens.now.rest.now) c.args.height (omega arith)) c.declaration_or_function.ensures
