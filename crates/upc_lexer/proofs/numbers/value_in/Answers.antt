use Rattle.std.proofs.Common.{◌≡◌, ◌*◌, take, ◌∙◌, ap, arith}
use Rattle.std.proofs.lemmas.List.{take_all}
use Rattle.upc_lexer.specs.Numbers.{value_in}
use Rattle.upc_lexer.proofs.Values.{next_value}
use Rattle.upc_lexer.proofs.numbers.value_in.Goals as goal

pub returns-in_err-shifted : goal.returns-in_err-shifted
returns-in_err-shifted c =
    let more = next_value c.args.base c.args.digits.now c.loop-digit.digit-index c.loop-digit.value c.radix.result c.loop-digit-test.true c.loop-digit.invariant.value_is c.radix.ensures in
    rw c.from_residual.ensures (λ lt. c.in_err-shifted.ensures (omega (arith, more)))

pub returns-in_err-value : goal.returns-in_err-value
returns-in_err-value c =
    let more = next_value c.args.base c.args.digits.now c.loop-digit.digit-index c.loop-digit.value c.radix.result c.loop-digit-test.true c.loop-digit.invariant.value_is c.radix.ensures in
    let shifted : c.in_ok-shifted.shifted ≡ c.loop-digit.value * c.radix.result = c.in_ok-shifted.ensures.1 in
    rw c.from_residual-in_err-value.ensures (λ lt. c.in_err-value.ensures (omega (arith, more, shifted, c.digit_value.ensures)))

pub returns : goal.returns
returns c =
    let whole : take c.loop-digit.digit-index c.args.digits.now ≡ c.args.digits.now = take_all c.loop-digit.digit-index c.args.digits.now c.loop-digit-test.false in
    let value : c.loop-digit.value ≡ value_in c.args.base c.args.digits.now = c.loop-digit.invariant.value_is ∙ ap (value_in c.args.base) whole in
    (omega (arith, value), value)
