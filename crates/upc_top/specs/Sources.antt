-- The way of a source to a program for so many threads: tokens, then their expansion, then the tree of that, then the
-- typed tree, then the program.
use Rattle.std.specs.Prelude.{ℕ, ◌≡◌, ◌≤◌, List, length}
use Rattle.upc_text.specs.declared.place.Code.{Code}
use Rattle.upc_text.specs.declared.place.Code.TheVariants.{Syntax, Limit}
use Rattle.upc_text.specs.declared.place.Refusal.{Refusal}
use Rattle.upc_text.specs.declared.faults.Stop.{Stop}
use Rattle.upc_text.specs.declared.faults.Stop.TheVariants.{Refused, Memory}
use Rattle.upc_lexer.specs.declared.token.Token.{Token}
use Rattle.upc_lexer.specs.Tokens.{AreTokensOf, RefusedAt}
use Rattle.upc_macros.specs.Expansion.{IsExpansion, StopsExpansion}
use Rattle.upc_tree.specs.Unit.{External, ProperUnit, IsTree, tokens_of}
use Rattle.upc_parser.specs.Answer.{HasPlace}
use Rattle.upc_checker.specs.Outcomes as outcomes
use Rattle.upc_checker.specs.Outcomes.{outcome}
use Rattle.typed_tree.specs.Programs.{Checked}

-- The bytes have tokens over these names, and these tokens are their expansion.
pub record IsExpanded (bytes : List ℕ) (names : List (List ℕ)) (expanded : List Token) : Type 0 where
  pub tokens : List Token
  pub cut : AreTokensOf bytes tokens names
  pub expansion : IsExpansion bytes tokens (length names) expanded

-- The expansion of the bytes has this tree, a proper one of at most 256 levels.
pub record IsRead (bytes : List ℕ) (names : List (List ℕ)) (tree : List External) : Type 0 where
  pub expanded : List Token
  pub expands : IsExpanded bytes names expanded
  pub grammar : IsTree expanded tree

-- The tree of the bytes breaks no typing rule and passes no limit on so many threads, and is this program with its
-- types.
pub record IsTyped (threads : ℕ) (bytes : List ℕ) (names : List (List ℕ)) (tree : List External)
    (checked : Checked) : Type 0 where
  pub read : IsRead bytes names tree
  pub typed : outcome names threads tree ≡ outcomes.Accepted checked

-- The source is accepted on so many threads, as this program with its types.
pub record IsAccepted (threads : ℕ) (bytes : List ℕ) (checked : Checked) : Type 0 where
  pub names : List (List ℕ)
  pub tree : List External
  pub typed : IsTyped threads bytes names tree checked

-- The source is accepted, as some program.
pub record Passes (threads : ℕ) (bytes : List ℕ) : Type 0 where
  pub checked : Checked
  pub accepted : IsAccepted threads bytes checked

-- Why expanded tokens have no tree: no proper tree of any height has them, or each that has them is too high.
pub data HasNoTree (expanded : List Token) (code : Code) : Type 0 where
  no_syntax : code ≡ Syntax → ((u : List External) → ProperUnit u → tokens_of u ≡ expanded → ⊥)
      → HasNoTree expanded code
  too_high : code ≡ Limit 3 → 256 ≤ length expanded → ((u : List External) → IsTree expanded u → ⊥)
      → HasNoTree expanded code

-- Why a source is refused: it has no tokens, no expansion or no tree, or the tree breaks a typing rule or passes a
-- limit.
pub data IsRefused (threads : ℕ) (bytes : List ℕ) (r : Refusal) : Type 0 where
  -- It has no tokens.
  no_tokens : RefusedAt bytes r → IsRefused threads bytes r
  -- Its tokens have no expansion.
  no_expansion : (tokens : List Token) (names : List (List ℕ)) → AreTokensOf bytes tokens names
      → StopsExpansion bytes tokens (length names) (Refused r) → IsRefused threads bytes r
  -- The expanded tokens have no tree.
  no_tree : (names : List (List ℕ)) (expanded : List Token) → IsExpanded bytes names expanded
      → HasNoTree expanded r.code → HasPlace expanded r.place → IsRefused threads bytes r
  -- The tree breaks a typing rule, or passes a limit.
  no_typing : (names : List (List ℕ)) (tree : List External) → IsRead bytes names tree
      → outcome names threads tree ≡ outcomes.Refused r → IsRefused threads bytes r

-- The source is refused, or there was no memory.
abbrev pub StopsReading : ℕ → List ℕ → Stop → Type 0
StopsReading threads bytes (Refused r) = IsRefused threads bytes r
StopsReading threads bytes Memory = Unit {0}
