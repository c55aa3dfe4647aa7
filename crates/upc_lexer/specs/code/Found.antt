-- What the code finds at the front of some bytes.
use Rattle.std.specs.Prelude.{◌≡◌, ℕ, ◌≤◌, false, List, length, take, drop}
use Rattle.upc_lexer.specs.declared.lexemes.Found.{Found}
use Rattle.upc_lexer.specs.declared.lexemes.Found.TheVariants.{Name, Token}
use Rattle.upc_lexer.specs.Splices.{opens_trigraph}
use Rattle.upc_lexer.specs.Gaps.{opens_comment, NoGap}
use Rattle.upc_lexer.specs.Tokens.{IsLexeme, IsPlainName, Spells}

-- Neither a blank nor a comment nor a trigraph is at the front of the bytes (C99 6.4, 6.4.9, 5.2.1.1).
pub record IsGapless (bytes : List ℕ) : Type 0 where
  pub no_comment : opens_comment bytes ≡ false
  pub no_trigraph : opens_trigraph bytes ≡ false
  pub no_gap : NoGap bytes

-- A token is at the front of the bytes, and it is the one that the code has found (C99 6.4).
abbrev pub Finds : List ℕ → Found → Type 0
Finds bytes (Name n) = (n ≤ length bytes) × IsLexeme (take n bytes) (drop n bytes) × IsPlainName (take n bytes)
    × (n ≤ 255)
Finds bytes (Token kind n) = (n ≤ length bytes) × IsLexeme (take n bytes) (drop n bytes)
    × ((names : List (List ℕ)) → Spells names kind (take n bytes))
