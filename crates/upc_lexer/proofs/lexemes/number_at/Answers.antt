use Rattle.std.proofs.Common.{◌≡◌, true, false, take, drop, ap, sym, ◌∙◌, subst, arith}
use Rattle.std.proofs.lemmas.List.Sums.{prefix_len-le-length}
use Rattle.upc_lexer.specs.Bytes.{is_number_byte}
use Rattle.upc_lexer.specs.Numbers.{IsNumber, RefusesNumber}
use Rattle.upc_lexer.specs.Tokens.{takes_sign}
use Rattle.upc_lexer.proofs.FoundLemmas.{number_found, number_lexeme, number_refused, number_goes_on}
use Rattle.upc_lexer.proofs.lexemes.number_at.Goals as goal

pub split_at-requires : goal.split_at-requires
split_at-requires c = omega (arith, c.number_length-length.ensures, prefix_len-le-length is_number_byte c.args.bytes.now)

pub returns-then-takes_sign-clause-err : goal.returns-then-takes_sign-clause-err
returns-then-takes_sign-clause-err c =
    let f = number_found c.args.bytes.now c.number_length-length.result c.requires.begins c.number_length-length.ensures in
    let signed : takes_sign (take c.number_length-length.result c.args.bytes.now) (drop c.number_length-length.result c.args.bytes.now) ≡ true =
    ap (λ t. takes_sign t (drop c.number_length-length.result c.args.bytes.now)) (sym c.split_at.ensures.front) ∙ ap (takes_sign c.split_at.result.0.now) (sym c.split_at.ensures.back) ∙ sym c.takes_sign.ensures ∙ c.if-takes_sign.true in
    number_goes_on c.args.bytes.now c.number_length-length.result c.requires.gapless c.requires.begins f signed

pub returns-in-Ok-clause-ok : goal.returns-in-Ok-clause-ok
returns-in-Ok-clause-ok c =
    let f = number_found c.args.bytes.now c.number_length-length.result c.requires.begins c.number_length-length.ensures in
    let unsigned : takes_sign (take c.number_length-length.result c.args.bytes.now) (drop c.number_length-length.result c.args.bytes.now) ≡ false =
    ap (λ t. takes_sign t (drop c.number_length-length.result c.args.bytes.now)) (sym c.split_at.ensures.front) ∙ ap (takes_sign c.split_at.result.0.now) (sym c.split_at.ensures.back) ∙ sym c.takes_sign.ensures ∙ c.if-takes_sign.false in
    (f.within, number_lexeme c.args.bytes.now c.number_length-length.result c.requires.gapless f unsigned, λ _. subst (λ t. IsNumber t c.in-Ok.value c.in-Ok.kind) c.split_at.ensures.front c.in-Ok.ensures.ok)

pub returns-in-Err-clause-err : goal.returns-in-Err-clause-err
returns-in-Err-clause-err c =
    let f = number_found c.args.bytes.now c.number_length-length.result c.requires.begins c.number_length-length.ensures in
    let unsigned : takes_sign (take c.number_length-length.result c.args.bytes.now) (drop c.number_length-length.result c.args.bytes.now) ≡ false =
    ap (λ t. takes_sign t (drop c.number_length-length.result c.args.bytes.now)) (sym c.split_at.ensures.front) ∙ ap (takes_sign c.split_at.result.0.now) (sym c.split_at.ensures.back) ∙ sym c.takes_sign.ensures ∙ c.if-takes_sign.false in
    number_refused c.args.bytes.now c.number_length-length.result c.in-Err.code c.requires.gapless f unsigned (subst (λ t. RefusesNumber t c.in-Err.code) c.split_at.ensures.front c.in-Err.ensures.err)
