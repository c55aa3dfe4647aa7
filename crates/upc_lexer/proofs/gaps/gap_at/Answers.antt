use Rattle.std.proofs.Common.{◌≡◌, ◌≤◌, ℕ, length, drop, take, get_or, List, true, false, refl, arith, rules, length-drop, ap, sym, ◌∙◌, subst}
use Rattle.std.proofs.lemmas.List.Sums.{prefix_len-le-length}
use Rattle.std.specs.List.{prefix_len}
use Rattle.upc_lexer.specs.Gaps.{IsCommentEnd}
use Rattle.upc_lexer.specs.Splices.{ends_in_splice, has_spliced_end}
use Rattle.upc_lexer.specs.Bytes.{is_blank, is_in_line}
use Rattle.upc_lexer.proofs.Lists.{rest_is}
use Rattle.upc_lexer.proofs.GapLemmas.{line_gap, block_gap, blank_gap, line_refused, block_refused}
use Rattle.upc_lexer.proofs.gaps.gap_at.Goals as goal

pub returns-then-ends_in_splice : goal.returns-then-ends_in_splice
returns-then-ends_in_splice c =
    let n : c.line_length-length.result ≡ prefix_len is_in_line (drop 2 c.args.bytes.now) = c.line_length-length.ensures ∙ ap (prefix_len is_in_line) (rest_is 2 c.args.bytes.now) in
    let first : get_or c.args.bytes.now 0 0 ≡ 47 = search rules in
    let second : get_or c.args.bytes.now 1 0 ≡ 47 = search rules in
    let spliced : ends_in_splice (take c.line_length-length.result (drop 2 c.args.bytes.now)) ≡ true = ap (λ xs. ends_in_splice (take c.line_length-length.result xs)) (sym (rest_is 2 c.args.bytes.now)) ∙ sym c.ends_in_splice.ensures ∙ c.if-ends_in_splice.true in
    line_refused c.args.bytes.now (drop 2 c.args.bytes.now) c.line_length-length.result c.in-47.len_at_least first second refl n spliced

pub returns-else-ends_in_splice : goal.returns-else-ends_in_splice
returns-else-ends_in_splice c =
    let n : c.line_length-length.result ≡ prefix_len is_in_line (drop 2 c.args.bytes.now) = c.line_length-length.ensures ∙ ap (prefix_len is_in_line) (rest_is 2 c.args.bytes.now) in
    let first : get_or c.args.bytes.now 0 0 ≡ 47 = search rules in
    let second : get_or c.args.bytes.now 1 0 ≡ 47 = search rules in
    let whole : ends_in_splice (take c.line_length-length.result (drop 2 c.args.bytes.now)) ≡ false = ap (λ xs. ends_in_splice (take c.line_length-length.result xs)) (sym (rest_is 2 c.args.bytes.now)) ∙ sym c.ends_in_splice.ensures ∙ c.if-ends_in_splice.false in (
      omega arith,
      omega (arith, n, prefix_len-le-length is_in_line (drop 2 c.args.bytes.now), length-drop 2 c.args.bytes.now),
      line_gap c.args.bytes.now (drop 2 c.args.bytes.now) c.line_length-length.result c.in-47.len_at_least first second refl n whole,
    )

pub returns-then-has_spliced_end : goal.returns-then-has_spliced_end
returns-then-has_spliced_end c =
    let first : get_or c.args.bytes.now 0 0 ≡ 47 = search rules in
    let second : get_or c.args.bytes.now 1 0 ≡ 42 = search rules in
    let end : IsCommentEnd (take c.in-Some.length (drop 2 c.args.bytes.now)) = subst (λ xs. IsCommentEnd (take c.in-Some.length xs)) (rest_is 2 c.args.bytes.now) c.in-Some.ensures.found in
    let spliced : has_spliced_end (take c.in-Some.length (drop 2 c.args.bytes.now)) ≡ true = ap (λ xs. has_spliced_end (take c.in-Some.length xs)) (sym (rest_is 2 c.args.bytes.now)) ∙ sym c.has_spliced_end.ensures ∙ c.if-has_spliced_end.true in
    block_refused c.args.bytes.now (drop 2 c.args.bytes.now) c.in-Some.length c.in-47-2.len_at_least first second refl end spliced

pub returns-else-has_spliced_end : goal.returns-else-has_spliced_end
returns-else-has_spliced_end c =
    let first : get_or c.args.bytes.now 0 0 ≡ 47 = search rules in
    let second : get_or c.args.bytes.now 1 0 ≡ 42 = search rules in
    let end : IsCommentEnd (take c.in-Some.length (drop 2 c.args.bytes.now)) = subst (λ xs. IsCommentEnd (take c.in-Some.length xs)) (rest_is 2 c.args.bytes.now) c.in-Some.ensures.found in
    let within : c.in-Some.length ≤ length (drop 2 c.args.bytes.now) = subst (λ (xs : List ℕ). c.in-Some.length ≤ length xs) (rest_is 2 c.args.bytes.now) c.in-Some.ensures.within in
    let whole : has_spliced_end (take c.in-Some.length (drop 2 c.args.bytes.now)) ≡ false = ap (λ xs. has_spliced_end (take c.in-Some.length xs)) (sym (rest_is 2 c.args.bytes.now)) ∙ sym c.has_spliced_end.ensures ∙ c.if-has_spliced_end.false in (
      omega arith,
      omega (arith, within, length-drop 2 c.args.bytes.now),
      block_gap c.args.bytes.now (drop 2 c.args.bytes.now) c.in-Some.length c.in-47-2.len_at_least first second refl end whole,
    )

pub returns-in-len1-up : goal.returns-in-len1-up
returns-in-len1-up c =
    let blank : is_blank (get_or c.args.bytes.now 0 0) ≡ true = search rules in
    (omega arith, c.in-len1-up.len_at_least, blank_gap c.args.bytes.now c.in-len1-up.len_at_least blank)
