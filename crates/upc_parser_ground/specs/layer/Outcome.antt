-- Parsers as functions on lists of tokens.
use Rattle.std.specs.Prelude.{ℕ, zero, suc, Bool, false, ◌&&◌, if◌then◌else◌, List, [], ◌∷◌, length, Result, Ok, Err}
use Rattle.upc_lexer.specs.declared.token.Token.{Token}
use Rattle.upc_lexer.specs.declared.token.TokenKind.{TokenKind}
use Rattle.upc_lexer.specs.declared.token.TokenKind.TheVariants as token_kind
use Rattle.upc_lexer.specs.declared.token.Punct.{Punct}
use Rattle.upc_lexer.specs.contracts.token.Punct as punct
use Rattle.upc_lexer.specs.declared.token.Word.{Word}
use Rattle.upc_lexer.specs.contracts.token.Word as word
use denote.Enum.Bare.{sameb}
use Rattle.upc_tree.specs.declared.span.Span.{Span}
use Rattle.upc_tree.specs.declared.span.Name.{Name}
use Rattle.upc_tree.specs.declared.span.StringLiteral.{StringLiteral}
use Rattle.upc_parser_ground.specs.declared.cursor.Fault.{Fault}
use Rattle.upc_parser_ground.specs.declared.cursor.Fault.TheVariants.{NoTree}

-- A tree with the tokens that are left, or why there is none.
abbrev pub Outcome : Type 0 → Type 0
Outcome A = Result (A × List Token) Fault

-- A parser: what it makes of a list of tokens, which is a tree with the tokens that are left, or why there is none.
abbrev pub Parser : Type 0 → Type 0
Parser A = List Token → Outcome A

-- An outcome, and what its tree and the tokens that are left lead to; where there is no tree it stays.
infixl 10 ◌>>=◌
abbrev pub ◌>>=◌ : {A B : Type 0} → Outcome A → (A × List Token → Outcome B) → Outcome B
(Ok x) >>= f = f x
(Err e) >>= f = Err e

-- Where a token begins and ends, and its place.
abbrev pub span_of : Token → Span
span_of x = record { start = x.start; end = x.end; place = x.place }

-- Whether a token is this mark (C99 6.4.6).
abbrev pub is_punct : Punct → TokenKind → Bool
is_punct mark (token_kind.Punct other) = sameb punct.the_type other mark
is_punct mark _ = false

-- Whether a token is this word (C99 6.4.1, UPC 6.2).
abbrev pub is_word : Word → TokenKind → Bool
is_word w (token_kind.Word other) = sameb word.the_type other w
is_word w _ = false

-- Whether there is a first token that passes the test.
abbrev pub starts : (TokenKind → Bool) → List Token → Bool
starts test [] = false
starts test (x ∷ ts) = test x.kind

-- Whether there are two tokens at the front that pass the tests.
abbrev pub starts_two : (TokenKind → Bool) → (TokenKind → Bool) → List Token → Bool
starts_two test next [] = false
starts_two test next (x ∷ ts) = test x.kind && starts next ts

-- The parser of one token that passes the test, which gives where the token stands.
abbrev pub expect : (TokenKind → Bool) → Parser Span
expect test [] = Err NoTree
expect test (x ∷ ts) = if test x.kind then Ok (span_of x, ts) else Err NoTree

-- The parser of one mark (C99 6.4.6).
abbrev pub expect_punct : Punct → Parser Span
expect_punct mark = expect (is_punct mark)

-- The parser of one word (C99 6.4.1, UPC 6.2).
abbrev pub expect_word : Word → Parser Span
expect_word w = expect (is_word w)

-- The parser of a name whose token has been taken (C99 6.4.2).
abbrev pub name_by : TokenKind → Span → Parser Name
name_by (token_kind.Name number) span ts = Ok (record { number = number; span = span }, ts)
name_by _ span ts = Err NoTree

-- The parser of a name (C99 6.4.2).
abbrev pub name : Parser Name
name [] = Err NoTree
name (x ∷ ts) = name_by x.kind (span_of x) ts

-- The parser of a string literal whose token has been taken (C99 6.4.5).
abbrev pub string_by : TokenKind → Span → Parser StringLiteral
string_by (token_kind.Str bytes) span ts = Ok (record { bytes = bytes; span = span }, ts)
string_by _ span ts = Err NoTree

-- The parser of a string literal (C99 6.4.5).
abbrev pub string : Parser StringLiteral
string [] = Err NoTree
string (x ∷ ts) = string_by x.kind (span_of x) ts

-- The parser of items one after the other, while the tokens go on so, and of at most so many.
unfoldable pub many : {X : Type 0} → (List Token → Bool) → Parser X → ℕ → Parser (List X)
many goes item zero ts = Ok ([], ts)
many goes item (suc count) ts =
    if goes ts then (item ts >>= λ x. many goes item count x.1 >>= λ r. Ok (x.0 ∷ r.0, r.1)) else Ok ([], ts)

-- The parser of items one after the other, while the tokens go on so.
abbrev pub all : {X : Type 0} → (List Token → Bool) → Parser X → Parser (List X)
all goes item ts = many goes item (length ts) ts

-- The parser of items one after the other, while the tokens go on so, as the list that a tree holds.
abbrev pub listed : {X Xs : Type 0} → (List X → Xs) → (List Token → Bool) → Parser X → Parser Xs
listed of goes item ts = all goes item ts >>= λ r. Ok (of r.0, r.1)
