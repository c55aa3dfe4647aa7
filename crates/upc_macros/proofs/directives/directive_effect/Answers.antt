use Rattle.std.proofs.Common.{◌∙◌, true, false, ap, sym}
use Rattle.upc_macros.specs.declared.continuation.Reading.TheVariants.{Blank}
use Rattle.upc_macros.specs.Continuation.{goes_on}
use Rattle.upc_macros.proofs.ContinuationLemmas.{rest_is}
use Rattle.upc_macros.proofs.LineLemmas.{effect_by}
use Rattle.upc_macros.proofs.directives.directive_effect.Goals as goal

pub returns-then-goes_on-clause-effect : goal.returns-then-goes_on-clause-effect
returns-then-goes_on-clause-effect c =
    sym (effect_by c.args.source.now c.args.tokens.now c.args.macros.now c.args.begin c.args.end c.index-tokens-end.result true c.requires.forward c.requires.within c.index-tokens-end.is (sym c.if-goes_on.true ∙ c.goes_on.ensures ∙ ap (goes_on Blank) (rest_is c.index-tokens-end.result.end c.args.source.now)))

pub returns-clause-effect : goal.returns-clause-effect
returns-clause-effect c =
    c.effect_of.ensures.effect ∙ sym (effect_by c.args.source.now c.args.tokens.now c.args.macros.now c.args.begin c.args.end c.index-tokens-end.result false c.requires.forward c.requires.within c.index-tokens-end.is (sym c.if-goes_on.false ∙ c.goes_on.ensures ∙ ap (goes_on Blank) (rest_is c.index-tokens-end.result.end c.args.source.now)))
