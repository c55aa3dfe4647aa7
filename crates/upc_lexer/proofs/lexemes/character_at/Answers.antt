use Rattle.upc_lexer.proofs.FoundLemmas.{character_found, character_absent}
use Rattle.upc_lexer.proofs.lexemes.character_at.Goals as goal

pub returns-in-Some-clause-ok : goal.returns-in-Some-clause-ok
returns-in-Some-clause-ok c =
    let found = c.in-Some.ensures in
    (found.0, character_found c.args.bytes.now c.in-Some.length c.in-Some.value c.requires.gapless found.1, λ _. found.1)

pub returns-in-None-clause-err : goal.returns-in-None-clause-err
returns-in-None-clause-err c = character_absent c.args.bytes.now c.requires.some c.requires.gapless c.requires.quote c.in-None.ensures
