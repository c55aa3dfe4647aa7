-- A directive in the code: it has the tokens from one index up to another.
use Rattle.std.specs.Prelude.{◌≡◌, ℕ, ◌+◌, ◌-◌, ◌≤◌, List, [], ◌∷◌, ◌++◌, Option, None, length, take, drop}
use Rattle.upc_lexer.specs.declared.token.Token.{Token}
use Rattle.upc_macros.specs.declared.table.Body.{Body}
use Rattle.upc_macros.specs.Directives.{Effect, directive_effect}
use Rattle.upc_text.specs.declared.faults.Stop.{Stop}
use Rattle.upc_macros.specs.Expansion.{Item, effect_items, items, lines_of, expansion}
use Rattle.upc_macros.specs.code.Table.{seen, AreBodies, Takes, StopsIn}

-- The tokens after the `#` of a line, by the numbers of the line's tokens (C99 6.10).
abbrev pub behind_hash : List Token → ℕ → ℕ → List Token
behind_hash tokens begin end = take (end - (begin + 1)) (drop (begin + 1) tokens)

-- What a directive does, by its `#`, which is the first of these tokens, and the tokens after it (C99 6.10).
abbrev pub hash_effect : List ℕ → List Token → List (Option Body) → List Token → List Token → Option Effect
hash_effect source tokens table behind [] = None
hash_effect source tokens table behind (hash ∷ rest) = directive_effect source (seen tokens table) hash behind

-- What the directive of a line does, by the numbers of the line's tokens (C99 6.10).
abbrev pub line_effect : List ℕ → List Token → List (Option Body) → ℕ → ℕ → Option Effect
line_effect source tokens table begin end =
    hash_effect source tokens table (behind_hash tokens begin end) (drop begin tokens)

-- What the line of a directive becomes, where its tokens from the `#` on are given (C99 6.10).
abbrev pub hash_items : List ℕ → List Token → List (Option Body) → ℕ → ℕ → List Token → List Item
hash_items source tokens table begin end [] = []
hash_items source tokens table begin end (hash ∷ rest) = effect_items hash (behind_hash tokens begin end)
    (line_effect source tokens table begin end)

-- What the line of a directive becomes, by the numbers of its tokens (C99 6.10).
abbrev pub line_items : List ℕ → List Token → List (Option Body) → ℕ → ℕ → List Item
line_items source tokens table begin end = hash_items source tokens table begin end (drop begin tokens)

-- A line has been expanded: what it becomes was put at the end, and the macros are those after it.
pub record LineDone (source : List ℕ) (tokens line : List Token) (table later : List (Option Body))
    (old new : List Token) : Type 0 where
  pub its : List Item
  pub taken : Takes old new its
  pub items_are : (lines : List (List Token)) → items source (seen tokens table) (line ∷ lines)
      ≡ its ++ items source (seen tokens later) lines
  pub same_length : length later ≡ length table
  pub bodies : AreBodies tokens later

-- A line is refused, whatever lines follow it, or there was no memory.
abbrev pub LineStops : List ℕ → List Token → List Token → List (Option Body) → List Token → Stop → Type 0
LineStops source tokens line table old stop = (lines : List (List Token))
    → StopsIn (length old) (items source (seen tokens table) (line ∷ lines)) stop

-- The tokens of a source are expanded up to one of them.
pub record IsExpandedTo (source : List ℕ) (tokens : List Token) (names at : ℕ) (table : List (Option Body))
    (out : List Token) : Type 0 where
  pub its : List Item
  pub taken : Takes [] out its
  pub whole : expansion source tokens names ≡ its ++ items source (seen tokens table) (lines_of (drop at tokens))
  pub within : at ≤ length tokens
  pub same_length : length table ≡ names
  pub bodies : AreBodies tokens table
