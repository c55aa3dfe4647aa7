use Rattle.std.proofs.Common.{length, sym, ◌∙◌, subst}
use Rattle.std.proofs.lemmas.Result.{err_from_is_err_and}
use Rattle.upc_macros.specs.Replacing.{replaced}
use Rattle.upc_macros.specs.code.Table.{seen, Takes, StopsIn}
use Rattle.upc_macros.specs.code.Walk.{placed_items}
use Rattle.upc_macros.specs.code.Known.{AreKnown}
use Rattle.upc_macros.proofs.TextLemmas.{text_more, text_stops, text_hash}
use Rattle.upc_macros.proofs.lines.text_line.Goals as goal

pub returns-then-is_hash-clause-err : goal.returns-then-is_hash-clause-err
returns-then-is_hash-clause-err c =
    text_hash c.args.source.now (seen c.args.tokens.now c.args.macros.now.items) c.args.line.now c.loop-token.token-index c.token-item.result c.args.expanded.now.items c.loop-token.expanded.items c.loop-token-test.true c.token-item.is (sym c.is_hash.ensures ∙ c.if-is_hash.true) c.loop-token.invariant.taken

pub returns-in_err-replace-clause-err : goal.returns-in_err-replace-clause-err
returns-in_err-replace-clause-err c =
    let p = err_from_is_err_and c.from_residual.result c.from_residual.ensures.1 in
    let stops = subst (λ m. StopsIn (length c.loop-token.expanded.items) (placed_items c.token-item.result.place (replaced (length m) c.args.source.now (seen c.args.tokens.now m) c.token-item.result)) c.in_err-replace.field-0.0) c.loop-token.invariant.macros c.in_err-replace.ensures.err in
    rw (p.1, p.2) (text_stops c.args.source.now c.args.tokens.now c.args.macros.now.items c.args.line.now c.loop-token.token-index c.token-item.result c.args.expanded.now.items c.loop-token.expanded.items c.in_err-replace.field-0.0 c.loop-token-test.true c.token-item.is (sym c.is_hash.ensures ∙ c.if-is_hash.false) c.loop-token.invariant.taken stops)

pub loop-token-preserved : goal.loop-token-preserved
loop-token-preserved c =
    let took = subst (λ m. Takes c.loop-token.expanded.items c.replace.new.expanded.items (placed_items c.token-item.result.place (replaced (length m) c.args.source.now (seen c.args.tokens.now m) c.token-item.result))) c.loop-token.invariant.macros c.in_ok-replace.ensures.ok in
    record {
      macros = c.in_ok-replace.ensures.macros ∙ c.loop-token.invariant.macros;
      since = c.in_ok-replace.ensures.since ∙ c.loop-token.invariant.since;
      known = subst (λ m. AreKnown c.args.source.now c.args.tokens.now m c.replace.new.expanded.items c.replace.new.known) c.loop-token.invariant.macros c.in_ok-replace.ensures.known;
      taken = text_more c.args.source.now c.args.tokens.now c.args.macros.now.items c.args.line.now c.loop-token.token-index c.token-item.result c.args.expanded.now.items c.loop-token.expanded.items c.replace.new.expanded.items c.loop-token-test.true c.token-item.is (sym c.is_hash.ensures ∙ c.if-is_hash.false) c.loop-token.invariant.taken took;
    }
