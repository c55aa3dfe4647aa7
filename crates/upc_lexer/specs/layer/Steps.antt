-- How the tokens grow.
use Rattle.std.specs.Prelude.{◌≡◌, ℕ, ◌+◌, ◌<◌, ◌≤◌, List, [], ◌∷◌, ◌++◌, length, take, drop}
use Rattle.upc_text.specs.declared.place.Place.{Place}
use Rattle.upc_text.specs.declared.faults.Stop.{Stop}
use Rattle.upc_text.specs.declared.faults.Stop.TheVariants.{Refused, Memory}
use Rattle.upc_lexer.specs.declared.token.Token.{Token}
use Rattle.upc_lexer.specs.declared.token.TokenKind.{TokenKind}
use Rattle.upc_lexer.specs.declared.token.TokenKind.TheVariants.{Name}
use Rattle.upc_lexer.specs.Names.{firsts, insert_name}
use Rattle.upc_lexer.specs.Tokens.{Piece, gap, lexeme, text_of, joined, names_in, tokens_in, IsPiece, Cuts, Refuses}
use Rattle.upc_lexer.specs.Tokens.{RefusedAt}
use Rattle.upc_lexer.specs.Places.{place_after}

-- A token of this kind at this place, so many bytes after the beginning of the source, and so many bytes long.
abbrev pub token_of : TokenKind → ℕ → ℕ → Place → Token
token_of kind at n place = record { kind = kind; start = at; end = at + n; place = place }

-- The tokens of a piece at this place, so many bytes after the beginning of the source: one, or none for a blank or a
-- comment.
abbrev pub tokens_of : ℕ → Place → Piece → List Token
tokens_of at place (gap text) = []
tokens_of at place (lexeme text kind) = token_of kind at (length text) place ∷ []

-- The names with that of a piece, where it is a name.
abbrev pub names_with : List (List ℕ) → Piece → List (List ℕ)
names_with names (lexeme text (Name n)) = insert_name names text
names_with names piece = names

-- One piece of so many bytes is taken from the front of the bytes, and its token and its name are added.
pub record Steps (bytes : List ℕ) (n at : ℕ) (place : Place) (old_tokens : List Token) (old_names : List (List ℕ))
    (tokens : List Token) (names : List (List ℕ)) : Type 0 where
  pub piece : Piece
  pub some : 0 < n
  pub within : n ≤ length bytes
  pub text_is : text_of piece ≡ take n bytes
  pub stands : IsPiece names piece (drop n bytes)
  pub tokens_are : tokens ≡ old_tokens ++ tokens_of at place piece
  pub names_are : names ≡ names_with old_names piece

-- The bytes are refused at this place, or there was no memory.
abbrev pub StopsHere : List ℕ → Place → Stop → Type 0
StopsHere bytes place (Refused refusal) = (refusal.place ≡ place) × Refuses bytes refusal.code
StopsHere bytes place Memory = Unit {0}

-- The source is refused, or there was no memory (C99 6.4).
abbrev pub StopsSource : List ℕ → Stop → Type 0
StopsSource source (Refused refusal) = RefusedAt source refusal
StopsSource source Memory = Unit {0}

-- The source is cut into pieces up to a place, with these tokens and these names (C99 6.4).
pub record IsCutTo (source : List ℕ) (at : ℕ) (tokens : List Token) (names : List (List ℕ))
    (place : Place) : Type 0 where
  pub pieces : List Piece
  pub within : at ≤ length source
  pub front_is : joined pieces ≡ take at source
  pub cut : Cuts names pieces (drop at source)
  pub tokens_are : tokens ≡ tokens_in [] pieces
  pub names_are : names ≡ firsts (names_in pieces)
  pub place_is : place ≡ place_after (take at source)
  pub few : length names ≤ at
