use Rattle.std.proofs.Common.{rules, ◌≡◌, length, get_or, arith, ap, sym, ◌∙◌, length-drop}
use Rattle.upc_lexer.proofs.Lists.{rest_is, eqb-no}
use Rattle.upc_lexer.proofs.StringLemmas.{string_found, string_absent, string_otherwise, stops_past, stops_here}
use Rattle.upc_lexer.proofs.strings.string.Goals as goal
use Rattle.upc_lexer.proofs.strings.string.Goals.{else-length-inside-via-then-length-inside+then-inside-length-eq34+else-not-is_read_otherwise, else-length-inside-via-then-length-inside+else-inside-length-eq34, else-length-inside-via-else-length-inside}

pub returns-then-not-is_read_otherwise : goal.returns-then-not-is_read_otherwise
returns-then-not-is_read_otherwise c =
    let quote : get_or c.args.bytes.now 0 0 ≡ 34 = search rules in (
      omega (arith, c.if-length-inside.true, ap length (rest_is 1 c.args.bytes.now), length-drop 1 c.args.bytes.now),
      string_found c.args.bytes.now _ c.in_ok-value.value c.in_ok-value.length c.in-34.len_at_least quote (rest_is 1 c.args.bytes.now) c.in_ok-value.ensures c.if-length-inside.true c.if-inside-length-eq34.true (sym c.is_read_otherwise.ensures ∙ c.if-not-is_read_otherwise.true),
    )

pub returns-else-length-inside : goal.returns-else-length-inside
returns-else-length-inside c =
    let quote : get_or c.args.bytes.now 0 0 ≡ 34 = search rules in
    elim c.else-length-inside.branch [
      | else-length-inside-via-then-length-inside+then-inside-length-eq34+else-not-is_read_otherwise w ↦ string_otherwise c.args.bytes.now _ c.in_ok-value.value c.in_ok-value.length c.in-34.len_at_least quote (rest_is 1 c.args.bytes.now) c.in_ok-value.ensures w.if-length-inside.true w.if-inside-length-eq34.true (sym w.is_read_otherwise.ensures ∙ w.if-not-is_read_otherwise.false)
      | else-length-inside-via-then-length-inside+else-inside-length-eq34 w ↦ string_absent c.args.bytes.now _ c.in_ok-value.value c.in_ok-value.length c.in-34.len_at_least quote (rest_is 1 c.args.bytes.now) c.in_ok-value.ensures (stops_here _ c.in_ok-value.length _ w.if-length-inside.true (eqb-no _ 34 w.if-inside-length-eq34.false))
      | else-length-inside-via-else-length-inside w ↦ string_absent c.args.bytes.now _ c.in_ok-value.value c.in_ok-value.length c.in-34.len_at_least quote (rest_is 1 c.args.bytes.now) c.in_ok-value.ensures (stops_past _ c.in_ok-value.length _ w.if-length-inside.false)
    ]
