use Rattle.std.proofs.Common.{◌≡◌, false, drop, ap, sym, ◌∙◌}
use Rattle.upc_lexer.specs.Splices.{opens_trigraph}
use Rattle.upc_lexer.proofs.Lists.{rest_is}
use Rattle.upc_lexer.proofs.ScanLemmas.{trigraph_on}
use Rattle.upc_lexer.proofs.splices.has_trigraph.Goals as goal

pub loop-at-preserved : goal.loop-at-preserved
loop-at-preserved c =
    let not_here : opens_trigraph (drop c.loop-at.at c.args.bytes.now) ≡ false = ap opens_trigraph (sym (rest_is c.loop-at.at c.args.bytes.now)) ∙ sym c.opens_trigraph.ensures ∙ c.if-opens_trigraph.false in
    trigraph_on c.args.bytes.now c.loop-at.at c.loop-at-test.true not_here ∙ c.loop-at.invariant
