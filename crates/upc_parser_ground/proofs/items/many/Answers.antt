use Rattle.std.proofs.Common.{◌≡◌, ◌∙◌, true, sym, refl, arith}
use Rattle.std.proofs.lemmas.Result.{err_from_is_err_and}
use Rattle.upc_parser_ground.specs.layer.Ahead.{shows}
use Rattle.upc_parser_ground.proofs.Ran.{nothing, one_more, fell}
use Rattle.upc_parser_ground.proofs.items.many.Goals as goal

pub loop-turn-init : goal.loop-turn-init
loop-turn-init g c = nothing c.args.tokens.now.rest.now c.new-found.result.items c.new-found.ensures.items

pub returns-in_err-part : goal.returns-in_err-part
returns-in_err-part g c =
    let p = err_from_is_err_and c.from_residual.result c.from_residual.ensures.1 in
    let on : shows c.args.ahead c.loop-turn.tokens.rest.now ≡ true = sym c.shows.ensures ∙ c.if-not-shows.false in
    rw (p.1, p.2) (fell c.args.tokens.now.rest.now c.loop-turn.found.items c.loop-turn.tokens.rest.now _ _ c.in_err-part.field-0.0 c.loop-turn.invariant.0 (omega arith) on refl c.in_err-part.ensures)

pub loop-turn-preserved : goal.loop-turn-preserved
loop-turn-preserved g c =
    let on : shows c.args.ahead c.loop-turn.tokens.rest.now ≡ true = sym c.shows.ensures ∙ c.if-not-shows.false in
    one_more c.args.tokens.now.rest.now c.loop-turn.found.items c.push.new.self.items c.loop-turn.tokens.rest.now c.in_ok-part.part _ _ c.loop-turn._turn c.loop-turn.invariant on refl c.in_ok-part.ensures c.in_ok-push.ensures.items
