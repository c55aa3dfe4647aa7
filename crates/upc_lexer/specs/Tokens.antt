-- The tokens of a source (C99 6.4).
use Rattle.std.specs.Prelude.{◌≡◌, ◌≢◌, ℕ, ◌+◌, ◌-◌, ◌<◌, ◌≤◌, Bool, true, false, ◌||◌, ◌&&◌, ◌==◌, List, [], ◌∷◌, ◌++◌}
use Rattle.std.specs.Prelude.{length, Some, slice_get, slice_index_or}
use Rattle.std.specs.List.{list_all}
use Rattle.upc_text.specs.declared.place.Code.{Code}
use Rattle.upc_text.specs.declared.place.Code.TheVariants.{Lex, Limit}
use Rattle.upc_text.specs.declared.place.Refusal.{Refusal}
use Rattle.upc_lexer.specs.declared.token.Token.{Token}
use Rattle.upc_lexer.specs.declared.token.TokenKind.{TokenKind}
use Rattle.upc_lexer.specs.declared.token.TokenKind.TheVariants.{Name, Word, Number, Character, Str, Punct, Pragma}
use Rattle.upc_lexer.specs.declared.token.Word.{Word as AWord}
use Rattle.upc_lexer.specs.declared.token.Punct.{Punct as AMark}
use Rattle.upc_lexer.specs.Bytes.{is_letter, is_digit, is_name_byte, is_number_byte}
use Rattle.upc_lexer.specs.Splices.{opens_trigraph}
use Rattle.upc_lexer.specs.Gaps.{IsGap, NoGap, opens_comment}
use Rattle.upc_lexer.specs.Words.{word_bytes}
use Rattle.upc_lexer.specs.Marks.{mark_bytes}
use Rattle.upc_lexer.specs.Numbers.{IsNumber, HasNoType, IsNoConstant}
use Rattle.upc_lexer.specs.Strings.{IsCharacter, IsString}
use Rattle.upc_lexer.specs.Places.{place_after}
use Rattle.upc_lexer.specs.Names.{firsts}

-- Whether a text is a letter or `_`, then letters, digits and `_`, as names and words are (C99 6.4.2.1).
abbrev pub is_name : List ℕ → Bool
is_name [] = false
is_name (b ∷ bs) = is_letter b && list_all is_name_byte bs

-- Whether bytes begin as numbers do: with a digit, or with `.` and a digit (C99 6.4.8).
abbrev pub begins_number : List ℕ → Bool
begins_number [] = false
begins_number (a ∷ []) = is_digit a
begins_number (a ∷ b ∷ rest) = is_digit a || (a == 46 && is_digit b)

-- Whether a text begins as numbers do and goes on with digits, letters, `_` and `.`, be it a constant or not
-- (C99 6.4.8, without signs).
abbrev pub is_number : List ℕ → Bool
is_number text = begins_number text && list_all is_number_byte text

-- The text is a token: a name or a word, a number, a character, a string, or a mark (C99 6.4).
pub data IsToken (text : List ℕ) : Type 0 where
  name : is_name text ≡ true → IsToken text
  number : is_number text ≡ true → IsToken text
  character : (value : ℕ) → IsCharacter text value → IsToken text
  string : (value : List ℕ) → IsString text value → IsToken text
  mark : (m : AMark) → text ≡ mark_bytes m → IsToken text

-- The text is a token, and no longer front of the same bytes is one (C99 6.4).
pub record IsLongest (text rest : List ℕ) : Type 0 where
  pub spelled : IsToken text
  pub most : (more after : List ℕ) → rest ≡ more ++ after → 0 < length more → IsToken (text ++ more) → ⊥

-- A number ends in `e` or `E` directly before `+` or `-`: in C99 it goes on with the sign (C99 6.4.8).
abbrev pub takes_sign : List ℕ → List ℕ → Bool
takes_sign text rest =
    is_digit (slice_index_or text 0 0)
    && (slice_index_or text (length text - 1) 0 == 101 || slice_index_or text (length text - 1) 0 == 69)
    && (slice_index_or rest 0 0 == 43 || slice_index_or rest 0 0 == 45)

-- The token at the front of these bytes is the longest there, where no comment and no trigraph (C99 5.2.1.1) begins,
-- and is no number that C99 goes on with (C99 6.4.8).
pub record IsLexeme (text rest : List ℕ) : Type 0 where
  pub no_comment : opens_comment (text ++ rest) ≡ false
  pub no_trigraph : opens_trigraph (text ++ rest) ≡ false
  pub no_sign : takes_sign text rest ≡ false
  pub longest : IsLongest text rest

-- The text is a name and no word (C99 6.4.1, 6.4.2.1).
pub record IsPlainName (text : List ℕ) : Type 0 where
  pub is_spelled : is_name text ≡ true
  pub no_word : (w : AWord) → text ≡ word_bytes w → ⊥

-- The text spells a token of this kind: a name by its number among the names, with at most 255 bytes, and a string with
-- at most 4,095 bytes of value (C99 6.4, 5.2.4.1).
abbrev pub Spells : List (List ℕ) → TokenKind → List ℕ → Type 0
Spells names (Name n) text = IsPlainName text × (length text ≤ 255) × (slice_get names n ≡ Some text)
Spells names (Word w) text = text ≡ word_bytes w
Spells names (Number value kind) text = IsNumber text value kind
Spells names (Character value) text = IsCharacter text value
Spells names (Str value) text = IsString text value × (length value ≤ 4095)
Spells names (Punct m) text = text ≡ mark_bytes m
Spells names (Pragma strict) text = ⊥

-- A piece of a source: a blank or a comment, or a token with its kind (C99 6.4).
pub data Piece : Type 0 where
  gap : List ℕ → Piece
  lexeme : List ℕ → TokenKind → Piece

-- The bytes of a piece of a source.
abbrev pub text_of : Piece → List ℕ
text_of (gap text) = text
text_of (lexeme text kind) = text

-- The bytes of the pieces, one after the other.
abbrev pub joined : List Piece → List ℕ
joined [] = []
joined (p ∷ ps) = text_of p ++ joined ps

-- The names among the pieces, each as often as it stands there.
abbrev pub names_in : List Piece → List (List ℕ)
names_in [] = []
names_in (lexeme text (Name n) ∷ ps) = text ∷ names_in ps
names_in (p ∷ ps) = names_in ps

-- The token of this text and kind that begins after these bytes of a source.
abbrev pub token_at : List ℕ → List ℕ → TokenKind → Token
token_at front text kind = record {
  kind = kind;
  start = length front;
  end = length front + length text;
  place = place_after front;
}

-- The tokens of the pieces, which begin after these bytes of a source.
abbrev pub tokens_in : List ℕ → List Piece → List Token
tokens_in front [] = []
tokens_in front (gap text ∷ ps) = tokens_in (front ++ text) ps
tokens_in front (lexeme text kind ∷ ps) = token_at front text kind ∷ tokens_in (front ++ text) ps

-- A piece is what stands at its place where these bytes follow it: a blank, a comment, or the longest token (C99 6.4).
abbrev pub IsPiece : List (List ℕ) → Piece → List ℕ → Type 0
IsPiece names (gap text) rest = IsGap text rest
IsPiece names (lexeme text kind) rest = IsLexeme text rest × Spells names kind text

-- Each of the pieces is what stands at its place, where these bytes follow the last of them (C99 6.4).
abbrev pub Cuts : List (List ℕ) → List Piece → List ℕ → Type 0
Cuts names [] rest = Unit {0}
Cuts names (p ∷ ps) rest = IsPiece names p (joined ps ++ rest) × Cuts names ps rest

-- The source is cut into pieces with these tokens and these names (C99 6.4).
pub record AreTokensOf (source : List ℕ) (tokens : List Token) (names : List (List ℕ)) : Type 0 where
  pub pieces : List Piece
  pub source_is : joined pieces ≡ source
  pub cut : Cuts names pieces []
  pub tokens_are : tokens ≡ tokens_in [] pieces
  pub names_are : names ≡ firsts (names_in pieces)

-- No token is at the front of the bytes (C99 6.4).
abbrev pub NoLexeme : List ℕ → Type 0
NoLexeme bytes = (text rest : List ℕ) → bytes ≡ text ++ rest → IsLexeme text rest → ⊥

-- Why a source is refused at these bytes: no token, blank or comment begins there, a number is no constant or has no
-- type, a name has more than 255 bytes, or the value of a string more than 4,095 (C99 6.4, 5.2.4.1).
pub data Refuses (bytes : List ℕ) (code : Code) : Type 0 where
  nothing : code ≡ Lex → bytes ≢ [] → NoGap bytes → NoLexeme bytes → Refuses bytes code
  no_constant : (text rest : List ℕ) → code ≡ Lex → bytes ≡ text ++ rest → IsLexeme text rest → is_number text ≡ true
      → IsNoConstant text → Refuses bytes code
  no_type : (text rest : List ℕ) → code ≡ Limit 2 → bytes ≡ text ++ rest → IsLexeme text rest → is_number text ≡ true
      → HasNoType text → Refuses bytes code
  long_name : (text rest : List ℕ) → code ≡ Limit 6 → bytes ≡ text ++ rest → IsLexeme text rest → IsPlainName text
      → 255 < length text → Refuses bytes code
  long_string : (text rest value : List ℕ) → code ≡ Limit 6 → bytes ≡ text ++ rest → IsLexeme text rest
      → IsString text value → 4095 < length value → Refuses bytes code

-- The front of the source is cut into pieces, and after it the source is refused (C99 6.4, 5.2.4.1).
pub record RefusedAt (source : List ℕ) (refusal : Refusal) : Type 0 where
  pub names : List (List ℕ)
  pub pieces : List Piece
  pub rest : List ℕ
  pub source_is : joined pieces ++ rest ≡ source
  pub cut : Cuts names pieces rest
  pub names_are : names ≡ firsts (names_in pieces)
  pub place_is : refusal.place ≡ place_after (joined pieces)
  pub refused : Refuses rest refusal.code
