use Rattle.std.proofs.Common.{Some, subst, arith}
use Rattle.upc_lexer.specs.Strings.{FindsString}
use Rattle.upc_lexer.proofs.FoundLemmas.{string_found, string_too_long, string_absent}
use Rattle.upc_lexer.proofs.lexemes.string_at.Goals as goal

pub returns-then-len-gt-STRING_LIMIT-clause-err : goal.returns-then-len-gt-STRING_LIMIT-clause-err
returns-then-len-gt-STRING_LIMIT-clause-err c =
    let found : FindsString c.args.bytes.now (Some (c.in-Some.value, c.in-Some.length)) = subst (FindsString c.args.bytes.now) c.in-Some.is c.in_ok-value.ensures in
    string_too_long c.args.bytes.now c.in-Some.value c.in-Some.length c.requires.gapless found.1 (omega arith)

pub returns-else-len-gt-STRING_LIMIT-clause-ok : goal.returns-else-len-gt-STRING_LIMIT-clause-ok
returns-else-len-gt-STRING_LIMIT-clause-ok c =
    let found : FindsString c.args.bytes.now (Some (c.in-Some.value, c.in-Some.length)) = subst (FindsString c.args.bytes.now) c.in-Some.is c.in_ok-value.ensures in
    (found.0, string_found c.args.bytes.now c.in-Some.value c.in-Some.length c.requires.gapless found.1, λ _. (found.1, omega arith))

pub returns-in-None-clause-err : goal.returns-in-None-clause-err
returns-in-None-clause-err c =
    string_absent c.args.bytes.now c.requires.some c.requires.gapless c.requires.quote (subst (FindsString c.args.bytes.now) c.in-None.is c.in_ok-value.ensures)
