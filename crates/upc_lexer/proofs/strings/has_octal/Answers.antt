use Rattle.std.proofs.Common.{◌≡◌, true, false, drop, ap, sym, ◌∙◌}
use Rattle.std.proofs.lemmas.Bool.{eq-eqb}
use Rattle.upc_lexer.specs.Strings.{opens_octal}
use Rattle.upc_lexer.proofs.Lists.{rest_is, eqb-no}
use Rattle.upc_lexer.proofs.ScanLemmas.{octal_found, octal_on, octal_past}
use Rattle.upc_lexer.proofs.strings.has_octal.Goals as goal
use Rattle.upc_lexer.proofs.strings.has_octal.Goals.{then-bytes-at-eq92, else-bytes-at-eq92}

pub returns-then-opens_octal : goal.returns-then-opens_octal
returns-then-opens_octal c =
    let here : opens_octal (drop c.loop-at.at c.args.bytes.now) ≡ true = ap opens_octal (sym (rest_is c.loop-at.at c.args.bytes.now)) ∙ sym c.opens_octal.ensures ∙ c.if-opens_octal.true in
    sym (sym c.loop-at.invariant ∙ octal_found c.args.bytes.now c.loop-at.at here)

pub loop-at-preserved : goal.loop-at-preserved
loop-at-preserved c =
    let not_here : opens_octal (drop c.loop-at.at c.args.bytes.now) ≡ false = ap opens_octal (sym (rest_is c.loop-at.at c.args.bytes.now)) ∙ sym c.opens_octal.ensures ∙ c.if-opens_octal.false in
    elim c.if-bytes-at-eq92.branch [
      | then-bytes-at-eq92 w ↦ rw w.at-is (octal_past c.args.bytes.now c.loop-at.at c.loop-at-test.true not_here (eq-eqb _ 92 w.if-bytes-at-eq92.true) ∙ c.loop-at.invariant)
      | else-bytes-at-eq92 w ↦ rw w.at-is (octal_on c.args.bytes.now c.loop-at.at c.loop-at-test.true not_here (eqb-no _ 92 w.if-bytes-at-eq92.false) ∙ c.loop-at.invariant)
    ]
