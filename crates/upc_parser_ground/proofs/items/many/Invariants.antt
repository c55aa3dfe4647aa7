use Rattle.std.proofs.Common.{◌≡◌, length}
use Rattle.upc_parser_ground.specs.layer.Ahead.{shows}
use Rattle.upc_parser_ground.specs.layer.Run.{Steps}
use Rattle.upc_parser_ground.proofs.items.many.Given as goal

abbrev pub invariant-loop-turn : goal.invariant-loop-turn
invariant-loop-turn g l = Steps (shows l.ahead) (goal.P-post g l.item) l.fn.tokens.rest.now l.found.items l.tokens.rest.now × (length l.found.items ≡ l._turn)
