use Rattle.std.proofs.Common.{◌≡◌, false, drop, ap, sym, ◌∙◌}
use Rattle.upc_lexer.specs.Splices.{opens_spliced_end}
use Rattle.upc_lexer.proofs.Lists.{rest_is}
use Rattle.upc_lexer.proofs.ScanLemmas.{end_on}
use Rattle.upc_lexer.proofs.splices.has_spliced_end.Goals as goal

pub loop-at-preserved : goal.loop-at-preserved
loop-at-preserved c =
    let not_here : opens_spliced_end (drop c.loop-at.at c.args.bytes.now) ≡ false = ap opens_spliced_end (sym (rest_is c.loop-at.at c.args.bytes.now)) ∙ sym c.opens_spliced_end.ensures ∙ c.if-opens_spliced_end.false in
    end_on c.args.bytes.now c.loop-at.at c.loop-at-test.true not_here ∙ c.loop-at.invariant
