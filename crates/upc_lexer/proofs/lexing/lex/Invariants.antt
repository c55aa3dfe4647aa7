use Rattle.std.proofs.Common.{◌-◌, length}
use Rattle.upc_lexer.specs.layer.Steps.{IsCutTo}
use Rattle.upc_lexer.proofs.lexing.lex.Given as goal

abbrev pub invariant-loop-at : goal.invariant-loop-at
invariant-loop-at l = IsCutTo l.source l.at l.lexed.tokens.items l.lexed.names l.place

abbrev pub decreases-loop-at : goal.decreases-loop-at
decreases-loop-at l = length l.source - l.at
