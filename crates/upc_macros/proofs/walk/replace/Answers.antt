use Rattle.std.proofs.Common.{[], ◌∷◌, Some, None, OnOk, IfErr, length, set, sym, ap, ◌∙◌, subst}
use Rattle.std.proofs.lemmas.Option.{slice_get_within}
use Rattle.std.proofs.lemmas.Result.{on_ok_weaker}
use Rattle.upc_macros.specs.Expansion.{given}
use Rattle.upc_macros.specs.code.Table.{Takes, StopsIn}
use Rattle.upc_macros.specs.code.Walk.{placed_items}
use Rattle.upc_macros.specs.code.Known.{AreKnown}
use Rattle.upc_macros.proofs.Tables.{set-back, taken_bodies}
use Rattle.upc_macros.proofs.ListeningLemmas.{get_same}
use Rattle.upc_macros.proofs.KnownLemmas.{known_gift, known_taken}
use Rattle.upc_macros.proofs.TextLemmas.{whole_macro, whole_plain, some_left}
use Rattle.upc_macros.proofs.walk.replace.Goals as goal

-- ---- a macro of which is known what it gives

pub returns-in-Some-clause-known : goal.returns-in-Some-clause-known
returns-in-Some-clause-known c =
    known_taken c.repeat.result c.args.source.now c.args.tokens.now c.args.macros.now.items c.args.expanded.now.items c.repeat.new.expanded.items _ c.args.known.now c.repeat.ensures.ok c.requires.known

pub returns-in-Some-clause-ok : goal.returns-in-Some-clause-ok
returns-in-Some-clause-ok c =
    let t = c.args.token.now in
    let x = known_gift c.args.source.now c.args.tokens.now c.args.macros.now.items c.args.expanded.now.items c.args.known.now t.kind c.in-Some.gift c.requires.known (sym c.in-Some.ensures) in
    subst (λ its. OnOk c.repeat.result (Takes c.args.expanded.now.items c.repeat.new.expanded.items its)) (x.2.gives t t.place x.1) c.repeat.ensures.ok

pub returns-in-Some-clause-err : goal.returns-in-Some-clause-err
returns-in-Some-clause-err c =
    let t = c.args.token.now in
    let x = known_gift c.args.source.now c.args.tokens.now c.args.macros.now.items c.args.expanded.now.items c.args.known.now t.kind c.in-Some.gift c.requires.known (sym c.in-Some.ensures) in
    subst (λ its. IfErr c.repeat.result (StopsIn (length c.args.expanded.now.items) its)) (x.2.gives t t.place x.1) c.repeat.ensures.err

-- ---- a macro that is walked

pub walk-requires-clause-bodies : goal.walk-requires-clause-bodies
walk-requires-clause-bodies c =
    let m = c.in-Some-take_macro in
    rw m.ensures.taken (taken_bodies c.args.tokens.now c.args.macros.now.items m.name c.requires.bodies)

pub walk-requires-clause-few : goal.walk-requires-clause-few
walk-requires-clause-few c =
    let m = c.in-Some-take_macro in
    some_left c.args.macros.now.items c.take_macro.new.macros.items m.name m.body m.ensures.body m.ensures.taken

pub walk-requires-clause-taken : goal.walk-requires-clause-taken
walk-requires-clause-taken c =
    let m = c.in-Some-take_macro in
    rw m.ensures.taken (get_same c.args.macros.now.items m.name None (slice_get_within c.args.macros.now.items m.name (Some m.body) m.ensures.body))

pub walk-requires-clause-known : goal.walk-requires-clause-known
walk-requires-clause-known c =
    let m = c.in-Some-take_macro in
    rw (m.ensures.taken, set-back c.args.macros.now.items m.name (Some m.body) None m.ensures.body) c.requires.known

pub returns-in-Some-take_macro-clause-known : goal.returns-in-Some-take_macro-clause-known
returns-in-Some-take_macro-clause-known c =
    let m = c.in-Some-take_macro in
    let back = ap (λ t. set t m.name (Some m.body)) m.ensures.taken ∙ set-back c.args.macros.now.items m.name (Some m.body) None m.ensures.body in
    subst (λ t. OnOk c.walk.result (AreKnown c.args.source.now c.args.tokens.now t c.walk.new.expanded.items c.walk.new.known)) back c.walk.ensures.known

pub returns-in-Some-take_macro-clause-macros : goal.returns-in-Some-take_macro-clause-macros
returns-in-Some-take_macro-clause-macros c =
    let m = c.in-Some-take_macro in
    on_ok_weaker c.walk.result (λ e. e ∙ rw m.ensures.taken (set-back c.args.macros.now.items m.name (Some m.body) None m.ensures.body)) c.walk.ensures.macros

pub returns-in-Some-take_macro-clause-ok : goal.returns-in-Some-take_macro-clause-ok
returns-in-Some-take_macro-clause-ok c =
    let m = c.in-Some-take_macro in
    let whole = whole_macro c.args.source.now c.args.tokens.now c.len.result c.args.macros.now.items c.take_macro.new.macros.items c.args.token.now m.name m.body m.ensures.kind m.ensures.body m.ensures.taken in
    subst (λ ts. OnOk c.walk.result (Takes c.args.expanded.now.items c.walk.new.expanded.items (placed_items c.args.token.now.place ts))) whole c.walk.ensures.ok

pub returns-in-Some-take_macro-clause-err : goal.returns-in-Some-take_macro-clause-err
returns-in-Some-take_macro-clause-err c =
    let m = c.in-Some-take_macro in
    let whole = whole_macro c.args.source.now c.args.tokens.now c.len.result c.args.macros.now.items c.take_macro.new.macros.items c.args.token.now m.name m.body m.ensures.kind m.ensures.body m.ensures.taken in
    subst (λ ts. IfErr c.walk.result (StopsIn (length c.args.expanded.now.items) (placed_items c.args.token.now.place ts))) whole c.walk.ensures.err

-- ---- a token that is no macro

pub returns-in_ok-plain_token-in-None-clause-known : goal.returns-in_ok-plain_token-in-None-clause-known
returns-in_ok-plain_token-in-None-clause-known c =
    known_taken c.emit.result c.args.source.now c.args.tokens.now c.args.macros.now.items c.args.expanded.now.items c.emit.new.expanded.items _ c.args.known.now c.emit.ensures.ok c.requires.known

pub returns-in_ok-plain_token-in-None-clause-ok : goal.returns-in_ok-plain_token-in-None-clause-ok
returns-in_ok-plain_token-in-None-clause-ok c =
    let whole = whole_plain c.args.source.now c.args.tokens.now c.args.macros.now.items c.args.token.now c.in-None.ensures.none in
    rw whole (subst (λ t. OnOk c.emit.result (Takes c.args.expanded.now.items c.emit.new.expanded.items (given t ∷ []))) c.in_ok-plain_token-in-None.ensures c.emit.ensures.ok)

pub returns-in_ok-plain_token-in-None-clause-err : goal.returns-in_ok-plain_token-in-None-clause-err
returns-in_ok-plain_token-in-None-clause-err c =
    let whole = whole_plain c.args.source.now c.args.tokens.now c.args.macros.now.items c.args.token.now c.in-None.ensures.none in
    rw whole (subst (λ t. IfErr c.emit.result (StopsIn (length c.args.expanded.now.items) (given t ∷ []))) c.in_ok-plain_token-in-None.ensures c.emit.ensures.err)
