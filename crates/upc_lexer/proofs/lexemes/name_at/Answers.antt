use Rattle.std.proofs.Common.{arith}
use Rattle.upc_lexer.proofs.FoundLemmas.{name_found, plain_name, name_too_long}
use Rattle.upc_lexer.proofs.lexemes.name_at.Goals as goal

pub returns-in-Some-clause-ok : goal.returns-in-Some-clause-ok
returns-in-Some-clause-ok c =
    let f = name_found c.args.bytes.now c.name_length-length.result c.requires.some c.requires.gapless c.requires.letter c.name_length-length.ensures in
    (f.within, f.lexeme, λ _. c.in-Some.ensures.found)

pub returns-then-length-gt-NAME_LIMIT-clause-err : goal.returns-then-length-gt-NAME_LIMIT-clause-err
returns-then-length-gt-NAME_LIMIT-clause-err c =
    let f = name_found c.args.bytes.now c.name_length-length.result c.requires.some c.requires.gapless c.requires.letter c.name_length-length.ensures in
    name_too_long c.args.bytes.now c.name_length-length.result f c.in_default.ensures.none (omega arith)

pub returns-clause-ok : goal.returns-clause-ok
returns-clause-ok c =
    let f = name_found c.args.bytes.now c.name_length-length.result c.requires.some c.requires.gapless c.requires.letter c.name_length-length.ensures in
    (f.within, f.lexeme, plain_name c.args.bytes.now c.name_length-length.result f c.in_default.ensures.none, omega arith)
