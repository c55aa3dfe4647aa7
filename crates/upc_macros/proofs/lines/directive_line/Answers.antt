use Rattle.std.proofs.Common.{OnOk, List, Some, None, true, false, length, refl, ap, subst, arith}
use Rattle.std.proofs.lemmas.Bool.{true≢false}
use Rattle.upc_macros.specs.declared.directives.Effect.TheVariants.{Pragma, Define, Undefine}
use Rattle.upc_macros.specs.code.Effects.{IsChange}
use Rattle.upc_macros.specs.Expansion.{Item}
use Rattle.upc_macros.specs.code.Table.{Takes}
use Rattle.upc_macros.proofs.LineLemmas.{effect_is, pragma_items, define_macros, undefine_macros}
use Rattle.upc_macros.proofs.Tables.{back_bodies, taken_bodies}
use Rattle.upc_macros.proofs.KnownLemmas.{forgotten, known_taken}
use Rattle.upc_macros.proofs.lines.directive_line.Goals as goal

pub returns-in-Some-Pragma-clause-ok : goal.returns-in-Some-Pragma-clause-ok
returns-in-Some-Pragma-clause-ok c =
    let effect = effect_is c.args.source.now c.args.tokens.now c.args.macros.now.items c.as_slice.result.now c.args.begin c.args.end c.in-Some-Pragma.field-0 (Pragma c.in-Some-Pragma.strict) c.as_slice.ensures.value c.in-Some-Pragma.field-0-is c.in-Some-Pragma.ensures.effect in
    let its = pragma_items c.args.source.now c.args.tokens.now c.args.macros.now.items c.args.begin c.args.end c.index-tokens-begin.result c.index-tokens-end.result c.in-Some-Pragma.strict c.requires.forward c.requires.within c.index-tokens-begin.is c.index-tokens-end.is effect in
    subst (λ (l : List Item). OnOk c.emit.result (Takes c.args.expanded.now.items c.emit.new.expanded.items l)) its c.emit.ensures.ok

pub returns-in-Some-Define-clause-bodies : goal.returns-in-Some-Define-clause-bodies
returns-in-Some-Define-clause-bodies c =
    let change = subst (IsChange c.args.tokens.now _) c.in-Some-Define.field-0-is c.in-Some-Define.ensures.within in
    back_bodies c.args.tokens.now c.args.macros.now.items c.in-Some-Define.number c.in-Some-Define.body c.requires.bodies change.1

pub returns-in-Some-Define-clause-macros : goal.returns-in-Some-Define-clause-macros
returns-in-Some-Define-clause-macros c =
    let effect = effect_is c.args.source.now c.args.tokens.now c.args.macros.now.items c.as_slice.result.now c.args.begin c.args.end c.in-Some-Define.field-0 (Define c.in-Some-Define.number c.in-Some-Define.body) c.as_slice.ensures.value c.in-Some-Define.field-0-is c.in-Some-Define.ensures.effect in
    define_macros c.args.source.now c.args.tokens.now c.args.macros.now.items c.args.begin c.args.end c.in-Some-Define.number c.in-Some-Define.body effect

pub returns-in-Some-Undefine-clause-bodies : goal.returns-in-Some-Undefine-clause-bodies
returns-in-Some-Undefine-clause-bodies c = taken_bodies c.args.tokens.now c.args.macros.now.items c.in-Some-Undefine.number c.requires.bodies

pub returns-in-Some-Undefine-clause-macros : goal.returns-in-Some-Undefine-clause-macros
returns-in-Some-Undefine-clause-macros c =
    let effect = effect_is c.args.source.now c.args.tokens.now c.args.macros.now.items c.as_slice.result.now c.args.begin c.args.end c.in-Some-Undefine.field-0 (Undefine c.in-Some-Undefine.number) c.as_slice.ensures.value c.in-Some-Undefine.field-0-is c.in-Some-Undefine.ensures.effect in
    undefine_macros c.args.source.now c.args.tokens.now c.args.macros.now.items c.args.begin c.args.end c.in-Some-Undefine.number effect

pub returns-in-Some-Pragma-clause-known : goal.returns-in-Some-Pragma-clause-known
returns-in-Some-Pragma-clause-known c =
    known_taken c.emit.result c.args.source.now c.args.tokens.now c.args.macros.now.items c.args.expanded.now.items c.emit.new.expanded.items _ c.args.known.now c.emit.ensures.ok c.requires.known

pub change-requires : goal.change-requires
change-requires c =
    let change = subst (IsChange c.args.tokens.now _) c.in-Some-Define.field-0-is c.in-Some-Define.ensures.within in
    omega (arith, change.0, ap length c.as_slice.ensures.value, c.requires.known.defined_size)

pub returns-in-Some-Define-clause-known : goal.returns-in-Some-Define-clause-known
returns-in-Some-Define-clause-known c =
    let change = subst (IsChange c.args.tokens.now _) c.in-Some-Define.field-0-is c.in-Some-Define.ensures.within in
    forgotten c.args.source.now c.args.tokens.now c.args.macros.now.items c.args.expanded.now.items c.args.known.now _ c.in-Some-Define.number true (Some c.in-Some-Define.body) c.args.begin c.args.end c.requires.known (omega (arith, change.0, ap length c.as_slice.ensures.value)) (λ e. absurd (true≢false e)) c.requires.since c.requires.forward c.change.ensures.since c.change.ensures.defined c.change.ensures.gifts

pub returns-in-Some-Undefine-clause-known : goal.returns-in-Some-Undefine-clause-known
returns-in-Some-Undefine-clause-known c =
    let change = subst (IsChange c.args.tokens.now _) c.in-Some-Undefine.field-0-is c.in-Some-Undefine.ensures.within in
    forgotten c.args.source.now c.args.tokens.now c.args.macros.now.items c.args.expanded.now.items c.args.known.now _ c.in-Some-Undefine.number false None c.args.begin c.args.end c.requires.known (omega (arith, change, ap length c.as_slice.ensures.value)) (λ e. refl) c.requires.since c.requires.forward c.change-in-Some-Undefine.ensures.since c.change-in-Some-Undefine.ensures.defined c.change-in-Some-Undefine.ensures.gifts
