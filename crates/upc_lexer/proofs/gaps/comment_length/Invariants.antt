use Rattle.upc_lexer.proofs.GapLemmas.{NoPair}
use Rattle.upc_lexer.proofs.gaps.comment_length.Given as goal

-- no `*/` ends before i
abbrev pub invariant-loop-i : goal.invariant-loop-i
invariant-loop-i l = NoPair l.bytes l.i
