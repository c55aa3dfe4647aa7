use Rattle.std.proofs.Common.{◌≡◌, ℕ, ◌<◌, get_or}
use Rattle.upc_lexer.specs.declared.token.Word.TheVariants.{Break}
use Rattle.upc_lexer.specs.Words.{word_bytes}
use Rattle.upc_lexer.proofs.words.word_of.Given as goal

-- no earlier word is spelled so
abbrev pub invariant-loop-word : goal.invariant-loop-word
invariant-loop-word l = (k : ℕ) → k < l.word-index → l.text ≡ word_bytes (get_or l.word-items k Break) → ⊥
