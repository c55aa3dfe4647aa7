use Rattle.std.proofs.Common.{◌+◌, ◌<◌, Some, None, ◌∙◌, ap, sym, subst, length, get_or, arith}
use Rattle.upc_macros.specs.Directives.{define_name}
use Rattle.upc_macros.specs.code.Table.{seen, IsWithin, body_tokens}
use Rattle.upc_macros.proofs.Tables.{found_at}
use Rattle.upc_macros.proofs.DirectiveLemmas.{part_first, define_parameters, define_none, define_some, at_index, macro_below}
use Rattle.upc_macros.proofs.directives.define_effect.Goals as goal

pub returns-then-has_parameters-clause-effect : goal.returns-then-has_parameters-clause-effect
returns-then-has_parameters-clause-effect c =
    let lt : c.args.begin < c.args.end = omega arith in
    let line = part_first c.args.tokens.now c.args.begin c.args.end c.index-tokens-begin.result lt c.requires.within c.index-tokens-begin.is in
    sym (define_parameters c.args.source.now (seen c.args.tokens.now c.args.macros.now) _ c.index-tokens-begin.result _ line (sym c.if-has_parameters.ensures))

pub definition-requires-clause-old : goal.definition-requires-clause-old
definition-requires-clause-old c =
    let lt : c.args.begin < length c.args.tokens.now = omega arith in
    let here : IsWithin (length c.args.source.now) (length c.args.macros.now) c.index-tokens-begin.result = subst (IsWithin (length c.args.source.now) (length c.args.macros.now)) (sym c.index-tokens-begin.is) (c.requires.tokens.each c.args.begin c.index-tokens-begin.result lt) in
    let below = macro_below c.args.source.now (length c.args.macros.now) c.index-tokens-begin.result c.in-Some.number (sym c.in-Some.ensures) here.numbered in
    λ b e. c.requires.bodies c.in-Some.number b (at_index c.args.macros.now c.in-Some.number below ∙ ap Some e)

pub returns-in-Some-clause-effect : goal.returns-in-Some-clause-effect
returns-in-Some-clause-effect c =
    let lt : c.args.begin < c.args.end = omega arith in
    let inside : c.args.begin < length c.args.tokens.now = omega arith in
    let here : IsWithin (length c.args.source.now) (length c.args.macros.now) c.index-tokens-begin.result = subst (IsWithin (length c.args.source.now) (length c.args.macros.now)) (sym c.index-tokens-begin.is) (c.requires.tokens.each c.args.begin c.index-tokens-begin.result inside) in
    let below = macro_below c.args.source.now (length c.args.macros.now) c.index-tokens-begin.result c.in-Some.number (sym c.in-Some.ensures) here.numbered in
    let line = part_first c.args.tokens.now c.args.begin c.args.end c.index-tokens-begin.result lt c.requires.within c.index-tokens-begin.is in
    let old = found_at c.args.tokens.now c.args.macros.now c.in-Some.number (get_or c.args.macros.now c.in-Some.number None) (at_index c.args.macros.now c.in-Some.number below) in
    c.definition.ensures.effect ∙ ap (λ o. define_name c.args.source.now o c.in-Some.number (body_tokens c.args.tokens.now (record { begin = c.args.begin + 1; end = c.args.end }))) (sym old)
    ∙ sym (define_some c.args.source.now (seen c.args.tokens.now c.args.macros.now) _ c.index-tokens-begin.result _ c.in-Some.number line (sym c.if-has_parameters.ensures) (sym c.in-Some.ensures))

pub returns-in-None-clause-effect : goal.returns-in-None-clause-effect
returns-in-None-clause-effect c =
    let lt : c.args.begin < c.args.end = omega arith in
    let line = part_first c.args.tokens.now c.args.begin c.args.end c.index-tokens-begin.result lt c.requires.within c.index-tokens-begin.is in
    sym (define_none c.args.source.now (seen c.args.tokens.now c.args.macros.now) _ c.index-tokens-begin.result _ line (sym c.if-has_parameters.ensures) (sym c.in-None.ensures))
