use Rattle.std.proofs.Common.{rules}
use Rattle.upc_parser.proofs.Placed.{place_at}
use Rattle.upc_parser.proofs.source.place_of.Goals as goal

pub returns : goal.returns
returns c = place_at c.args.tokens.now c.saturating_sub-at.result c.index-tokens-at.result (search rules)
