use Rattle.upc_lexer.proofs.FoundLemmas.{took_gap}
use Rattle.upc_lexer.proofs.lexing.step.Goals as goal

pub returns-in-Taken-clause-ok : goal.returns-in-Taken-clause-ok
returns-in-Taken-clause-ok c = let e = c.in-Taken.ensures in took_gap _ _ _ _ _ _ e.0 e.1 e.2
