use Rattle.std.proofs.Common.{◌≡◌, None, refl, sym, ◌∙◌, ap, arith}
use Rattle.std.proofs.lemmas.List.Sums.{prefix_len-le-length}
use Rattle.upc_lexer.specs.Numbers.{is_digit_in, value_in, kind_of}
use Rattle.upc_lexer.proofs.NumberLemmas.{found, no_digit_found, no_tail_found, number_found, no_type_found, too_great}
use Rattle.upc_lexer.proofs.numbers.number.Goals as goal

pub returns-then-count-eq0-clause-err : goal.returns-then-count-eq0-clause-err
returns-then-count-eq0-clause-err c =
    no_digit_found _ _ _ _ _ (found _ _ _ _ _ _ c.split_base-base.ensures.base c.split_base-base.ensures.rest c.digit_count-count.ensures refl refl) c.if-count-eq0.true

pub split_at-requires : goal.split_at-requires
split_at-requires c = omega (arith, c.digit_count-count.ensures, prefix_len-le-length (is_digit_in c.split_base-base.result.0) c.split_base-base.result.1.now)

pub returns-in_default-clause-err : goal.returns-in_default-clause-err
returns-in_default-clause-err c =
    let f = found _ _ _ _ _ _ c.split_base-base.ensures.base c.split_base-base.ensures.rest c.digit_count-count.ensures c.split_at.ensures.front c.split_at.ensures.back in
    no_tail_found _ _ _ _ _ f c.in_default.ensures

pub returns-in_default-value_in-clause-err : goal.returns-in_default-value_in-clause-err
returns-in_default-value_in-clause-err c =
    let f = found _ _ _ _ _ _ c.split_base-base.ensures.base c.split_base-base.ensures.rest c.digit_count-count.ensures c.split_at.ensures.front c.split_at.ensures.back in
    (refl, no_type_found _ _ _ _ _ _ f (omega arith) c.in-Some.ensures (too_great _ _ _ c.in_default-value_in.ensures))

pub returns-in-Some-kind_of-clause-ok : goal.returns-in-Some-kind_of-clause-ok
returns-in-Some-kind_of-clause-ok c =
    let f = found _ _ _ _ _ _ c.split_base-base.ensures.base c.split_base-base.ensures.rest c.digit_count-count.ensures c.split_at.ensures.front c.split_at.ensures.back in
    number_found _ _ _ _ _ _ _ _ f (omega arith) c.in-Some.ensures c.in-Some-value_in.ensures.1 c.in-Some-kind_of.ensures

pub returns-in-None-clause-err : goal.returns-in-None-clause-err
returns-in-None-clause-err c =
    let f = found _ _ _ _ _ _ c.split_base-base.ensures.base c.split_base-base.ensures.rest c.digit_count-count.ensures c.split_at.ensures.front c.split_at.ensures.back in
    let none : kind_of c.split_base-base.result.0 c.in-Some.suffix (value_in c.split_base-base.result.0 c.split_at.result.0.now) ≡ None =
    ap (kind_of c.split_base-base.result.0 c.in-Some.suffix) (sym c.in-Some-value_in.ensures.1) ∙ sym c.in-None.ensures in
    (refl, no_type_found _ _ _ _ _ _ f (omega arith) c.in-Some.ensures none)
