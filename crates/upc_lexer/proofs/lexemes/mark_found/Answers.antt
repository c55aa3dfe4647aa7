use Rattle.upc_lexer.proofs.FoundLemmas.{mark_found}
use Rattle.upc_lexer.proofs.lexemes.mark_found.Goals as goal

pub returns-in-Some-clause-ok : goal.returns-in-Some-clause-ok
returns-in-Some-clause-ok c =
    let f = mark_found c.args.bytes.now c.in-Some.length c.in-Some.mark c.requires.gapless c.requires.no_number c.in-Some.ensures.found c.in-Some.ensures.length c.in-Some.ensures.longest in
    (f.0, f.1, λ _. c.in-Some.ensures.found)
