use Rattle.std.proofs.Common.{◌∙◌}
use Rattle.upc_macros.proofs.DirectiveLemmas.{include_is}
use Rattle.upc_macros.proofs.directives.include_effect.Goals as goal

pub returns-clause-effect : goal.returns-clause-effect
returns-clause-effect c = λ tokens. c.header_effect.ensures.effect tokens ∙ include_is c.args.source.now c.args.line.now c.first-item.result c.index-line-line.result c.in-len1-up.len_at_least c.first-item.is c.index-line-line.is
