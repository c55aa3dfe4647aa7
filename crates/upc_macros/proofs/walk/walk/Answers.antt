use Rattle.std.proofs.Common.{◌≡◌, ◌-◌, ◌<◌, suc, [], ◌∷◌, length, take, append-nil, Some, None, refl, sym, ap, ◌∙◌, subst, arith}
use Rattle.std.proofs.Math.ListN.{length-set}
use Rattle.std.specs.Prelude.{reverse}
use Rattle.std.proofs.lemmas.Result.{err_from_is_err_and}
use Rattle.upc_macros.specs.Replacing.{placed, plain, replaced}
use Rattle.upc_macros.specs.code.Table.{seen, IsNumbered, Takes, StopsIn}
use Rattle.upc_macros.specs.code.Walk.{placed_items, pending, put_back, IsWalk}
use Rattle.upc_macros.specs.code.Known.{is_defined, IsListening, AreBegun}
use Rattle.upc_macros.proofs.Tables.{names_none}
use Rattle.upc_macros.proofs.WalkLemmas.{next_frame, start, replaced_plain, step_next, work_next, step_enter, work_enter, step_leave, finish, stop_next, one_more, no_fewer, deeper, shallower, reverse-push, name_within}
use Rattle.upc_macros.proofs.ListeningLemmas.{listen_free, listen_put, listen_enter, listen_leave, listen_start}
use Rattle.upc_macros.proofs.KnownLemmas.{copied, known_more, undefined_free, noted, gift_is, begun_start, begun_next, begun_enter, begun_leave}
use Rattle.upc_macros.proofs.walk.walk.Goals as goal

pub loop-frame-init : goal.loop-frame-init
loop-frame-init c =
    rw c.new-stack.ensures.items (record {
      same = refl;
      walk = start c.args.source.now c.args.tokens.now c.args.place c.args.expanded.now.items c.args.macros.now.items c.args.first c.requires.bodies c.requires.frame c.requires.few;
      since = refl;
      known = c.requires.known;
      listening = listen_start c.args.tokens.now c.args.macros.now.items (length c.args.expanded.now.items) 0 c.args.first c.requires.taken c.requires.frame.numbered c.requires.begin c.requires.before;
      begun = begun_start c.args.source.now c.args.tokens.now (length c.args.expanded.now.items) c.args.macros.now.items c.args.first c.requires.begin c.requires.before;
    })

-- ---- a macro of which is known what it gives

pub loop-frame-smaller-in-Some : goal.loop-frame-smaller-in-Some
loop-frame-smaller-in-Some c =
    let w = c.loop-frame.invariant.walk in
    work_next c.args.tokens.now (length c.loop-frame.macros.items - suc (length (reverse c.loop-frame.stack.items))) c.loop-frame.macros.items c.loop-frame.frame (reverse c.loop-frame.stack.items) c.index-tokens-frame.result c.if-frame.true w.frames_are.0.body.within c.index-tokens-frame.is

pub loop-frame-preserved-in-Some : goal.loop-frame-preserved-in-Some
loop-frame-preserved-in-Some c =
    let i = c.loop-frame.invariant in
    let w = i.walk in
    let t = c.index-tokens-frame.result in
    let table = c.loop-frame.macros.items in
    let whole = put_back c.args.macros.now.items c.args.first in
    let fs = reverse c.loop-frame.stack.items in
    let out = c.loop-frame.expanded.items in
    let x = copied c.args.source.now c.args.tokens.now c.args.place whole table out c.loop-frame.bound (length table - suc (length fs)) c.loop-frame.frame fs t c.loop-frame.known c.in-Some.gift i.known i.listening w.old_is c.if-frame.true w.frames_are.0.body.within c.index-tokens-frame.is (omega (arith, w.few)) (sym c.in-Some.ensures) in
    let ts = replaced (length whole) c.args.source.now (seen c.args.tokens.now whole) t in
    let took : Takes out c.repeat.new.expanded.items (placed_items c.args.place ts) = subst (Takes out c.repeat.new.expanded.items) x.gives c.in_ok-repeat.ensures.ok in
    record {
      same = i.same;
      walk = step_next c.args.source.now c.args.tokens.now c.args.place c.args.expanded.now.items _ _ table c.loop-frame.frame fs out c.repeat.new.expanded.items t ts w c.if-frame.true c.index-tokens-frame.is x.here took;
      since = i.since;
      known = known_more c.args.source.now c.args.tokens.now whole out c.repeat.new.expanded.items (placed_items c.args.place ts) c.loop-frame.known took i.known;
      listening = listen_free c.args.tokens.now whole table (length out) (length c.repeat.new.expanded.items) c.loop-frame.bound x.level c.loop-frame.frame fs t i.listening (no_fewer out c.repeat.new.expanded.items (placed_items c.args.place ts) took) (omega (arith, c.if-frame.true, w.frames_are.0.body.within)) c.index-tokens-frame.is x.free;
      begun = begun_next c.args.source.now c.args.tokens.now _ (length c.args.expanded.now.items) (length table - suc (length fs)) table c.loop-frame.frame fs i.begun;
    }

pub returns-in_err-repeat-clause-err : goal.returns-in_err-repeat-clause-err
returns-in_err-repeat-clause-err c =
    let i = c.loop-frame.invariant in
    let w = i.walk in
    let t = c.index-tokens-frame.result in
    let table = c.loop-frame.macros.items in
    let whole = put_back c.args.macros.now.items c.args.first in
    let fs = reverse c.loop-frame.stack.items in
    let out = c.loop-frame.expanded.items in
    let stop = c.in_err-repeat.field-0.0 in
    let x = copied c.args.source.now c.args.tokens.now c.args.place whole table out c.loop-frame.bound (length table - suc (length fs)) c.loop-frame.frame fs t c.loop-frame.known c.in-Some.gift i.known i.listening w.old_is c.if-frame.true w.frames_are.0.body.within c.index-tokens-frame.is (omega (arith, w.few)) (sym c.in-Some.ensures) in
    let ts = replaced (length whole) c.args.source.now (seen c.args.tokens.now whole) t in
    let stops : StopsIn (length out) (placed_items c.args.place ts) stop = subst (λ its. StopsIn (length out) its stop) x.gives c.in_err-repeat.ensures.err in
    let p = err_from_is_err_and c.from_residual.result c.from_residual.ensures.1 in
    rw (p.1, p.2) (stop_next c.args.source.now c.args.tokens.now c.args.place c.args.expanded.now.items _ _ table c.loop-frame.frame fs out t ts stop w c.if-frame.true c.index-tokens-frame.is x.here stops)

-- ---- a macro that is entered

pub loop-frame-smaller-in-Some-take_macro : goal.loop-frame-smaller-in-Some-take_macro
loop-frame-smaller-in-Some-take_macro c =
    let w = c.loop-frame.invariant.walk in
    let m = c.in-Some-take_macro in
    let stack = reverse-push c.loop-frame.stack.items c.push.new.self.items (next_frame c.loop-frame.frame) c.in_ok-push-in-Some-take_macro.ensures.items in
    rw (m.ensures.taken, stack) (work_enter c.args.tokens.now c.len.result c.loop-frame.macros.items c.loop-frame.frame (reverse c.loop-frame.stack.items) c.index-tokens-frame.result m.name m.body c.if-frame.true w.frames_are.0.body.within c.index-tokens-frame.is m.ensures.kind m.ensures.body w.few)

pub loop-frame-preserved-in-Some-take_macro : goal.loop-frame-preserved-in-Some-take_macro
loop-frame-preserved-in-Some-take_macro c =
    let i = c.loop-frame.invariant in
    let w = i.walk in
    let m = c.in-Some-take_macro in
    let table = c.loop-frame.macros.items in
    let fs = reverse c.loop-frame.stack.items in
    let out = c.loop-frame.expanded.items in
    let stack = reverse-push c.loop-frame.stack.items c.push.new.self.items (next_frame c.loop-frame.frame) c.in_ok-push-in-Some-take_macro.ensures.items in
    let count : c.len.result ≡ length out = omega (arith, c.len.ensures, c.loop-frame.expanded.ok.0) in
    let within : m.name < length table =
    subst (λ n. m.name < n) (sym i.same) (name_within (length c.args.macros.now.items) m.name c.index-tokens-frame.result.kind m.ensures.kind (subst (λ t. IsNumbered (length c.args.macros.now.items) t.kind) (sym c.index-tokens-frame.is) (c.requires.tokens.each c.loop-frame.frame.next c.index-tokens-frame.result (omega (arith, w.frames_are.0.body.within))).numbered)) in
    let walk = step_enter c.args.source.now c.args.tokens.now c.args.place c.len.result c.args.expanded.now.items _ _ table c.loop-frame.frame fs out c.index-tokens-frame.result m.name m.body w c.if-frame.true c.index-tokens-frame.is m.ensures.kind within m.ensures.body in
    record {
      same = ap length m.ensures.taken ∙ length-set table m.name None ∙ i.same;
      walk = rw (m.ensures.taken, stack) walk;
      since = i.since;
      known = i.known;
      listening = rw (m.ensures.taken, stack) (listen_enter c.args.tokens.now (put_back c.args.macros.now.items c.args.first) table (length out) c.len.result c.loop-frame.bound c.loop-frame.frame fs c.index-tokens-frame.result m.name m.body i.listening c.if-frame.true w.frames_are.0.body.within c.index-tokens-frame.is m.ensures.kind m.ensures.body count);
      begun = rw (m.ensures.taken, stack) (begun_enter c.args.source.now c.args.tokens.now c.args.place c.args.expanded.now.items _ _ table c.loop-frame.frame fs out m.name c.len.result m.body walk count m.ensures.body (deeper table (length fs) m.name m.body m.ensures.body w.few) i.begun);
    }

-- ---- a token that is put out

pub loop-frame-smaller-in-None : goal.loop-frame-smaller-in-None
loop-frame-smaller-in-None c =
    let w = c.loop-frame.invariant.walk in
    rw c.in-None.ensures.same (work_next c.args.tokens.now (length c.loop-frame.macros.items - suc (length (reverse c.loop-frame.stack.items))) c.loop-frame.macros.items c.loop-frame.frame (reverse c.loop-frame.stack.items) c.index-tokens-frame.result c.if-frame.true w.frames_are.0.body.within c.index-tokens-frame.is)

pub loop-frame-preserved-in-None : goal.loop-frame-preserved-in-None
loop-frame-preserved-in-None c =
    let i = c.loop-frame.invariant in
    let w = i.walk in
    let t = c.index-tokens-frame.result in
    let table = c.loop-frame.macros.items in
    let whole = put_back c.args.macros.now.items c.args.first in
    let fs = reverse c.loop-frame.stack.items in
    let out = c.loop-frame.expanded.items in
    let ts = plain c.args.source.now t ∷ [] in
    let here = replaced_plain (length table - suc (length fs)) c.args.source.now (seen c.args.tokens.now table) t (names_none c.args.tokens.now table t t.kind refl c.in-None.ensures.none) in
    let took : Takes out c.put.new.expanded.items (placed_items c.args.place ts) = c.in_ok-bound-in-None.ensures.ok in
    record {
      same = ap length c.in-None.ensures.same ∙ i.same;
      walk = rw c.in-None.ensures.same (step_next c.args.source.now c.args.tokens.now c.args.place c.args.expanded.now.items _ _ table c.loop-frame.frame fs out c.put.new.expanded.items t ts w c.if-frame.true c.index-tokens-frame.is here took);
      since = i.since;
      known = known_more c.args.source.now c.args.tokens.now whole out c.put.new.expanded.items (placed_items c.args.place ts) c.loop-frame.known took i.known;
      listening = rw c.in-None.ensures.same (listen_put c.args.tokens.now whole table (length out) (length c.put.new.expanded.items) c.loop-frame.bound _ c.loop-frame.frame fs t (is_defined c.loop-frame.known t.kind) i.listening (one_more out c.put.new.expanded.items (placed c.args.place (plain c.args.source.now t)) took) (omega (arith, c.if-frame.true, w.frames_are.0.body.within)) c.index-tokens-frame.is (λ e. undefined_free c.args.source.now c.args.tokens.now whole out c.loop-frame.known t.kind i.known e) c.in_ok-bound-in-None.ensures.bound);
      begun = rw c.in-None.ensures.same (begun_next c.args.source.now c.args.tokens.now _ (length c.args.expanded.now.items) (length table - suc (length fs)) table c.loop-frame.frame fs i.begun);
    }

pub returns-in_err-bound-in-None-clause-err : goal.returns-in_err-bound-in-None-clause-err
returns-in_err-bound-in-None-clause-err c =
    let w = c.loop-frame.invariant.walk in
    let t = c.index-tokens-frame.result in
    let table = c.loop-frame.macros.items in
    let fs = reverse c.loop-frame.stack.items in
    let here = replaced_plain (length table - suc (length fs)) c.args.source.now (seen c.args.tokens.now table) t (names_none c.args.tokens.now table t t.kind refl c.in-None.ensures.none) in
    let p = err_from_is_err_and c.from_residual-in_err-bound-in-None.result c.from_residual-in_err-bound-in-None.ensures.1 in
    rw (p.1, p.2) (stop_next c.args.source.now c.args.tokens.now c.args.place c.args.expanded.now.items _ _ table c.loop-frame.frame fs c.loop-frame.expanded.items t (plain c.args.source.now t ∷ []) c.in_err-bound-in-None.field-0.0 w c.if-frame.true c.index-tokens-frame.is here c.in_err-bound-in-None.ensures.err)

-- ---- the end of a macro

pub loop-frame-preserved : goal.loop-frame-preserved
loop-frame-preserved c =
    let i = c.loop-frame.invariant in
    let w = i.walk in
    let table = c.loop-frame.macros.items in
    let whole = put_back c.args.macros.now.items c.args.first in
    let frame = c.loop-frame.frame in
    let fs = reverse c.loop-frame.stack.items in
    let out = c.loop-frame.expanded.items in
    let end : frame.next ≡ frame.body.end = omega (arith, c.if-frame.false, w.frames_are.0.forward) in
    let stack = reverse-push c.pop.new.self.items c.loop-frame.stack.items c.in-Some-pop.outer c.in-Some-pop.ensures.items in
    let all = pending c.args.source.now c.args.tokens.now (length c.args.macros.now.items - 1) c.args.macros.now.items (c.args.first ∷ []) in
    let left = put_back table frame in
    record {
      same = length-set table frame.name (Some frame.body) ∙ i.same;
      walk = rw (← stack) (step_leave c.args.source.now c.args.tokens.now c.args.place c.args.expanded.now.items _ _ table frame fs out w c.if-frame.false);
      since = c.note.ensures.since ∙ i.since;
      known = noted c.args.source.now c.args.tokens.now whole out c.loop-frame.known c.note.new.known frame c.loop-frame.bound c.len-else-frame.result i.known c.note.ensures.since c.note.ensures.defined c.note.ensures.gifts (omega (arith, c.len-else-frame.ensures, c.loop-frame.expanded.ok.0)) (gift_is c.args.source.now c.args.tokens.now c.args.place c.args.expanded.now.items all whole table frame fs out c.loop-frame.bound c.loop-frame.known.since w i.begun i.listening c.if-frame.false);
      listening = listen_leave c.args.tokens.now whole table (length out) c.loop-frame.bound frame c.in-Some-pop.outer (reverse c.pop.new.self.items) (subst (λ fs. IsListening c.args.tokens.now whole table (length out) c.loop-frame.bound frame fs) stack i.listening) end;
      begun = subst (λ fs. AreBegun c.args.source.now c.args.tokens.now all (length c.args.expanded.now.items) (length left - length fs) left fs) stack (begun_leave c.args.source.now c.args.tokens.now all (length c.args.expanded.now.items) table frame fs (shallower table (length fs) frame w.few) i.begun);
    }

pub returns-in-None-pop-clause-known : goal.returns-in-None-pop-clause-known
returns-in-None-pop-clause-known c =
    let i = c.loop-frame.invariant in
    let w = i.walk in
    let whole = put_back c.args.macros.now.items c.args.first in
    let out = c.loop-frame.expanded.items in
    let all = pending c.args.source.now c.args.tokens.now (length c.args.macros.now.items - 1) c.args.macros.now.items (c.args.first ∷ []) in
    noted c.args.source.now c.args.tokens.now whole out c.loop-frame.known c.note.new.known c.loop-frame.frame c.loop-frame.bound c.len-else-frame.result i.known c.note.ensures.since c.note.ensures.defined c.note.ensures.gifts (omega (arith, c.len-else-frame.ensures, c.loop-frame.expanded.ok.0)) (gift_is c.args.source.now c.args.tokens.now c.args.place c.args.expanded.now.items all whole c.loop-frame.macros.items c.loop-frame.frame (reverse c.loop-frame.stack.items) out c.loop-frame.bound c.loop-frame.known.since w i.begun i.listening c.if-frame.false)

pub returns-in-None-pop-clause-ok : goal.returns-in-None-pop-clause-ok
returns-in-None-pop-clause-ok c =
    let w = c.loop-frame.invariant.walk in
    let left = step_leave c.args.source.now c.args.tokens.now c.args.place c.args.expanded.now.items _ _ c.loop-frame.macros.items c.loop-frame.frame (reverse c.loop-frame.stack.items) c.loop-frame.expanded.items w c.if-frame.false in
    let empty : c.loop-frame.stack.items ≡ [] = c.in-None-pop.ensures.items ∙ append-nil c.pop.new.self.items ∙ c.in-None-pop.ensures.rest ∙ ap (λ n. take (n - 1) c.loop-frame.stack.items) c.in-None-pop.ensures.cases.0 in
    let none : reverse c.loop-frame.stack.items ≡ [] = ap reverse empty in
    finish c.args.source.now c.args.tokens.now c.args.place c.args.expanded.now.items _ _ (put_back c.loop-frame.macros.items c.loop-frame.frame) c.loop-frame.expanded.items (subst (λ fs. IsWalk c.args.source.now c.args.tokens.now c.args.place c.args.expanded.now.items (pending c.args.source.now c.args.tokens.now (length c.args.macros.now.items - 1) c.args.macros.now.items (c.args.first ∷ [])) (put_back c.args.macros.now.items c.args.first) (put_back c.loop-frame.macros.items c.loop-frame.frame) fs c.loop-frame.expanded.items) none left)
