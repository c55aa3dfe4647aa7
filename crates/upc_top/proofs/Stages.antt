-- What each stage of a source leads to.
use Rattle.std.proofs.Common.{◌≡◌, ℕ, ◌≤◌, List, length, Err, inl, inr}
use Rattle.upc_text.specs.declared.place.Code.TheVariants.{Syntax, Limit}
use Rattle.upc_text.specs.declared.faults.Stop.{Stop}
use Rattle.upc_text.specs.declared.faults.Stop.TheVariants.{Refused, Memory}
use Rattle.upc_lexer.specs.declared.token.Token.{Token}
use Rattle.upc_lexer.specs.layer.Steps.{StopsSource}
use Rattle.upc_lexer.specs.Tokens.{AreTokensOf}
use Rattle.upc_macros.specs.Expansion.{IsExpansion, StopsExpansion}
use Rattle.upc_tree.specs.Unit.{External, ProperUnit, IsTree, tokens_of}
use Rattle.upc_parser.specs.Answer.{RefusedBy, OnlyRefused}
use Rattle.upc_checker.specs.Outcomes.{Answers, Decides, outcome}
use Rattle.typed_tree.specs.Programs.{Checked}
use Rattle.upc_top.specs.Sources.{IsExpanded, IsRead, no_syntax, too_high, no_tokens, no_expansion, no_tree, no_typing, StopsReading}

pub stops_lexing : (threads : ℕ) (bytes : List ℕ) (s : Stop) → StopsSource bytes s → StopsReading threads bytes s
stops_lexing threads bytes (Refused r) h = no_tokens h
stops_lexing threads bytes Memory h = tt

module _ (threads : ℕ) (bytes : List ℕ) (tokens : List Token) (names : List (List ℕ)) (cut : AreTokensOf bytes tokens names) where
  pub stops_expanding : (s : Stop) → StopsExpansion bytes tokens (length names) s → StopsReading threads bytes s
  stops_expanding (Refused r) h = no_expansion tokens names cut h
  stops_expanding Memory h = tt

  module _ (expanded : List Token) (exp : IsExpansion bytes tokens (length names) expanded) where
    pub expands : IsExpanded bytes names expanded
    expands = record { tokens = tokens; cut = cut; expansion = exp }

    pub reads : (u : List External) → IsTree expanded u → IsRead bytes names u
    reads u h = record { expanded = expanded; expands = expands; grammar = h }

    pub stops_parsing : (s : Stop) → (RefusedBy Syntax (Err s) → (u : List External) → ProperUnit u → tokens_of u ≡ expanded → ⊥) →
        (RefusedBy (Limit 3) (Err s) → (256 ≤ length expanded) × ((u : List External) → IsTree expanded u → ⊥)) →
        OnlyRefused expanded (Err s) → StopsReading threads bytes s
    stops_parsing Memory f g h = tt
    stops_parsing (Refused r) f g h =
        elim h.0 [
          | inl e ↦ no_tree names expanded expands (no_syntax e (f e)) h.1
          | inr e ↦ let l = g e in no_tree names expanded expands (too_high e l.0 l.1) h.1
        ]

pub stops_checking : (threads : ℕ) (bytes : List ℕ) (names : List (List ℕ)) (u : List External) {P : Type 0} (view : P → Checked) (s : Stop) → IsRead bytes names u
    → Answers view (outcome names threads u) (Err s) → StopsReading threads bytes s
stops_checking threads bytes names u view Memory h a = tt
stops_checking threads bytes names u view (Refused r) h a = no_typing names u h a

pub stops_deciding : (threads : ℕ) (bytes : List ℕ) (names : List (List ℕ)) (u : List External) (s : Stop) → IsRead bytes names u → Decides (outcome names threads u) (Err s)
    → StopsReading threads bytes s
stops_deciding threads bytes names u Memory h a = tt
stops_deciding threads bytes names u (Refused r) h a = no_typing names u h a
