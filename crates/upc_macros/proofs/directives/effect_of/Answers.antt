use Rattle.std.proofs.Common.{◌+◌, ◌<◌, length, ◌∙◌, arith}
use Rattle.upc_macros.specs.code.Table.{seen}
use Rattle.upc_macros.proofs.DirectiveLemmas.{slice_ordered, part_first, effect_include, effect_define, effect_undef, effect_pragma, effect_none}
use Rattle.upc_macros.proofs.directives.effect_of.Goals as goal

pub include_effect-requires : goal.include_effect-requires
include_effect-requires c = (length c.args.macros.now, slice_ordered (length c.args.source.now) (length c.args.macros.now) c.args.tokens.now (c.args.begin + 1) c.args.end c.requires.tokens (omega arith) c.requires.within)

pub undefine_effect-requires : goal.undefine_effect-requires
undefine_effect-requires c = (length c.args.macros.now, slice_ordered (length c.args.source.now) (length c.args.macros.now) c.args.tokens.now (c.args.begin + 1) c.args.end c.requires.tokens (omega arith) c.requires.within)

pub pragma_effect-requires : goal.pragma_effect-requires
pragma_effect-requires c = (length c.args.macros.now, slice_ordered (length c.args.source.now) (length c.args.macros.now) c.args.tokens.now (c.args.begin + 1) c.args.end c.requires.tokens (omega arith) c.requires.within)

pub returns-in-Include-clause-effect : goal.returns-in-Include-clause-effect
returns-in-Include-clause-effect c =
    let lt : c.args.begin < c.args.end = omega arith in
    let line = part_first c.args.tokens.now c.args.begin c.args.end c.index-tokens-begin.result lt c.requires.within c.index-tokens-begin.is in
    c.include_effect.ensures.effect c.args.tokens.now ∙ effect_include c.args.source.now (seen c.args.tokens.now c.args.macros.now) _ c.index-tokens-begin.result _ line c.in-Include.ensures

pub returns-in-Define-clause-effect : goal.returns-in-Define-clause-effect
returns-in-Define-clause-effect c =
    let lt : c.args.begin < c.args.end = omega arith in
    let line = part_first c.args.tokens.now c.args.begin c.args.end c.index-tokens-begin.result lt c.requires.within c.index-tokens-begin.is in
    let e = c.in-Define.ensures in
    c.define_effect.ensures.effect ∙ effect_define c.args.source.now (seen c.args.tokens.now c.args.macros.now) _ c.index-tokens-begin.result _ line e.0 e.1

pub returns-in-Undef-clause-effect : goal.returns-in-Undef-clause-effect
returns-in-Undef-clause-effect c =
    let lt : c.args.begin < c.args.end = omega arith in
    let line = part_first c.args.tokens.now c.args.begin c.args.end c.index-tokens-begin.result lt c.requires.within c.index-tokens-begin.is in
    let e = c.in-Undef.ensures in
    c.undefine_effect.ensures.effect c.args.tokens.now ∙ effect_undef c.args.source.now (seen c.args.tokens.now c.args.macros.now) _ c.index-tokens-begin.result _ line e.0 e.1 e.2

pub returns-in-Undef-clause-within : goal.returns-in-Undef-clause-within
returns-in-Undef-clause-within c = c.undefine_effect.ensures.within c.args.tokens.now (length c.args.macros.now) (slice_ordered (length c.args.source.now) (length c.args.macros.now) c.args.tokens.now (c.args.begin + 1) c.args.end c.requires.tokens (omega arith) c.requires.within)

pub returns-in-Pragma-clause-effect : goal.returns-in-Pragma-clause-effect
returns-in-Pragma-clause-effect c =
    let lt : c.args.begin < c.args.end = omega arith in
    let line = part_first c.args.tokens.now c.args.begin c.args.end c.index-tokens-begin.result lt c.requires.within c.index-tokens-begin.is in
    let e = c.in-Pragma.ensures in
    c.pragma_effect.ensures.effect c.args.tokens.now ∙ effect_pragma c.args.source.now (seen c.args.tokens.now c.args.macros.now) _ c.index-tokens-begin.result _ line e.0 e.1 e.2 e.3

pub returns-in-Other-clause-effect : goal.returns-in-Other-clause-effect
returns-in-Other-clause-effect c =
    let lt : c.args.begin < c.args.end = omega arith in
    let line = part_first c.args.tokens.now c.args.begin c.args.end c.index-tokens-begin.result lt c.requires.within c.index-tokens-begin.is in
    let e = c.in-Other.ensures in
    effect_none c.args.source.now (seen c.args.tokens.now c.args.macros.now) _ c.index-tokens-begin.result _ line e.0 e.1 e.2 e.3

pub returns-in-Include-clause-within : goal.returns-in-Include-clause-within
returns-in-Include-clause-within c = c.include_effect.ensures.within c.args.tokens.now (length c.args.macros.now)

pub returns-in-Pragma-clause-within : goal.returns-in-Pragma-clause-within
returns-in-Pragma-clause-within c = c.pragma_effect.ensures.within c.args.tokens.now (length c.args.macros.now)
