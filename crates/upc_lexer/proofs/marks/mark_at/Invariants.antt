use Rattle.std.proofs.Common.{◌≡◌, ℕ, ◌<◌, get_or, take, length}
use Rattle.upc_lexer.specs.declared.token.Punct.TheVariants.{LBracket}
use Rattle.upc_lexer.specs.Marks.{mark_bytes}
use Rattle.upc_lexer.proofs.marks.mark_at.Given as goal

-- no earlier mark stands at the front
abbrev pub invariant-loop-mark : goal.invariant-loop-mark
invariant-loop-mark l = (k : ℕ) → k < l.mark-index → take (length (mark_bytes (get_or l.mark-items k LBracket))) l.bytes ≡ mark_bytes (get_or l.mark-items k LBracket) → ⊥
