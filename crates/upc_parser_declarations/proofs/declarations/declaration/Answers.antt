use Rattle.std.proofs.Common.{◌≡◌, ap, arith}
use Rattle.upc_parser_ground.proofs.Turns.{deeper}
use Rattle.upc_parser_declarations.specs.layer.Parse.{declaration_at}
use Rattle.upc_parser_declarations.proofs.declarations.declaration.Goals as goal

pub returns-then-height-eq0 : goal.returns-then-height-eq0
unfolding declaration_at
returns-then-height-eq0 c = let none : c.args.height ≡ 0 = omega arith in ap (λ n. declaration_at n c.args.tokens.now.rest.now) none

pub returns : goal.returns
unfolding declaration_at
returns c = rw (deeper (λ n. declaration_at n c.args.tokens.now.rest.now) c.args.height (omega arith)) c.whole_declaration.ensures
