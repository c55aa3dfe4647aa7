use Rattle.std.proofs.Common.{Some, drop, arith, sym, ap, ◌∙◌, length-drop}
use Rattle.upc_lexer.specs.Strings.{spelled_at}
use Rattle.upc_lexer.proofs.Lists.{rest_is}
use Rattle.upc_lexer.proofs.StringLemmas.{spells, value_more}
use Rattle.upc_lexer.proofs.strings.string_body.Goals as goal

pub loop-byte-preserved : goal.loop-byte-preserved
loop-byte-preserved c =
    let s = ap spelled_at (sym (rest_is c.loop-byte.at c.args.inside.now)) ∙ sym c.spelled.ensures ∙ c.in-Some.is in
    let found = spells (drop c.loop-byte.at c.args.inside.now) c.in-Some.byte c.in-Some.length s in
    record {
      within = omega (arith, found.within, length-drop c.loop-byte.at c.args.inside.now);
      value_is = value_more c.loop-byte.at c.in-Some.length c.args.inside.now c.loop-byte.value c.in-Some.byte c.loop-byte.invariant.within c.loop-byte.invariant.value_is s ∙ ap Some (sym c.in_ok-push.ensures.ok);
    }
