-- The expansion of the tokens of a source, line by line.
use Rattle.std.specs.Prelude.{◌≡◌, ℕ, ◌+◌, nat_le, Bool, true, false, ◌==◌, List, [], ◌∷◌, ◌++◌, Option, Some, None}
use Rattle.std.specs.Prelude.{length, map, replicate, slice_set, if◌then◌else◌}
use Rattle.upc_text.specs.declared.place.Place.{Place}
use Rattle.upc_text.specs.declared.place.Refusal.{Refusal}
use Rattle.upc_text.specs.declared.place.Code.TheVariants.{Directive, Profile, Limit}
use Rattle.upc_text.specs.declared.faults.Stop.{Stop}
use Rattle.upc_text.specs.declared.faults.Stop.TheVariants.{Refused, Memory}
use Rattle.upc_lexer.specs.declared.token.Token.{Token}
use Rattle.upc_lexer.specs.declared.token.TokenKind.{TokenKind}
use Rattle.upc_lexer.specs.declared.token.TokenKind.TheVariants as kind
use Rattle.upc_lexer.specs.declared.token.Word.{Word}
use Rattle.upc_lexer.specs.declared.token.Word.TheVariants.{Auto, Double, Enum, Extern, Float, Goto, Inline, Register}
use Rattle.upc_lexer.specs.declared.token.Word.TheVariants.{Restrict, Typedef, Union, Volatile, Bool as BoolWord}
use Rattle.upc_lexer.specs.declared.token.Word.TheVariants.{Complex, Imaginary}
use Rattle.upc_lexer.specs.declared.token.Punct.TheVariants.{Hash}
use Rattle.upc_macros.specs.Spelling.{last_end}
use Rattle.upc_macros.specs.Replacing.{Macros, replaced, placed}
use Rattle.upc_macros.specs.Directives.{Effect, pragma, define, undefine, directive_effect}
use Rattle.std.specs.Option.{option_or}

-- A token put before lines: into the first of them if it is of that line, else as a line of its own (C99 6.10).
abbrev pub onto : Token → List (List Token) → List (List Token)
onto t [] = (t ∷ []) ∷ []
onto t ([] ∷ lines) = (t ∷ []) ∷ lines
onto t ((u ∷ us) ∷ lines) = if t.place.line == u.place.line then (t ∷ u ∷ us) ∷ lines else (t ∷ []) ∷ (u ∷ us) ∷ lines

-- The tokens of a source line by line, without lines that have none (C99 6.10).
abbrev pub lines_of : List Token → List (List Token)
lines_of [] = []
lines_of (t ∷ ts) = onto t (lines_of ts)

-- Whether a token is `#` (C99 6.10).
abbrev pub is_hash : TokenKind → Bool
is_hash (kind.Punct Hash) = true
is_hash k = false

-- A token of the expansion, or a `#` where no directive may stand or that makes none (C99 6.10).
pub data Item : Type 0 where
  given : Token → Item
  bad : Place → Item

-- What a token in a line of text becomes (C99 6.10.3).
abbrev pub token_items : List ℕ → Macros → Token → List Item
token_items source macros t =
    if is_hash t.kind then bad t.place ∷ []
    else map (λ u. given (placed t.place u)) (replaced (length macros) source macros t)

-- What the tokens of a line of text become, one after another (C99 6.10.3).
abbrev pub text_items : List ℕ → Macros → List Token → List Item
text_items source macros [] = []
text_items source macros (t ∷ ts) = token_items source macros t ++ text_items source macros ts

-- The token that a pragma becomes: it has the place and the beginning of its `#`, and the end of the last token of its
-- line (UPC 6.7).
abbrev pub pragma_token : Token → List Token → Bool → Token
pragma_token hash ts strict = record {
  kind = kind.Pragma strict;
  start = hash.start;
  end = last_end hash ts;
  place = hash.place;
}

-- What the line of a directive becomes: a token for a pragma of UPC, a refused `#` where it is none, else nothing
-- (C99 6.10, UPC 6.7).
abbrev pub effect_items : Token → List Token → Option Effect → List Item
effect_items hash ts None = bad hash.place ∷ []
effect_items hash ts (Some (pragma strict)) = given (pragma_token hash ts strict) ∷ []
effect_items hash ts (Some effect) = []

-- The macros after a directive: with the one that `#define` makes, without the one that `#undef` names, else the same
-- (C99 6.10.3, 6.10.3.5).
abbrev pub macros_after : Macros → Option Effect → Macros
macros_after macros (Some (define n body)) = slice_set macros n (Some body)
macros_after macros (Some (undefine n)) = slice_set macros n None
macros_after macros effect = macros

-- What the lines of a source become, one after another, where some names are macros (C99 6.10).
abbrev pub items : List ℕ → Macros → List (List Token) → List Item
items source macros [] = []
items source macros ([] ∷ lines) = items source macros lines
items source macros ((t ∷ ts) ∷ lines) =
    if is_hash t.kind then effect_items t ts (directive_effect source macros t ts)
    ++ items source (macros_after macros (directive_effect source macros t ts)) lines
    else text_items source macros (t ∷ ts) ++ items source macros lines

-- What the tokens of a source become, where at first no name is a macro (C99 6.10).
abbrev pub expansion : List ℕ → List Token → ℕ → List Item
expansion source tokens names = items source (replicate names None) (lines_of tokens)

-- The number of each word that the profile refuses; none for the words that it has.
abbrev pub profile_of : Word → Option ℕ
profile_of Auto = Some 1
profile_of Double = Some 2
profile_of Enum = Some 3
profile_of Extern = Some 4
profile_of Float = Some 5
profile_of Goto = Some 6
profile_of Inline = Some 7
profile_of Register = Some 8
profile_of Restrict = Some 9
profile_of Typedef = Some 10
profile_of Union = Some 11
profile_of Volatile = Some 12
profile_of BoolWord = Some 13
profile_of Complex = Some 14
profile_of Imaginary = Some 15
profile_of word = None

-- The number of a token that is a word which the profile refuses; none for any other token.
abbrev pub refused_word : TokenKind → Option ℕ
refused_word (kind.Word w) = profile_of w
refused_word k = None

-- The refusal of a token after so many others: it is a word that the profile refuses, by its number, or there are
-- 1,048,576 before it.
abbrev pub word_refusal : Place → Option ℕ → ℕ → Option Refusal
word_refusal place (Some n) before = Some (record { place = place; code = Profile n })
word_refusal place None before = if nat_le 1048576 before then Some (record { place = place; code = Limit 1 }) else None

-- The refusal of a token after so many others, at its place; none where it passes.
abbrev pub token_refusal : ℕ → Token → Option Refusal
token_refusal before t = word_refusal t.place (refused_word t.kind) before

-- The first refusal among items that come after so many tokens: a bad `#`, a refused word, or one token too many.
abbrev pub first_refusal : ℕ → List Item → Option Refusal
first_refusal before [] = None
first_refusal before (bad place ∷ rest) = Some (record { place = place; code = Directive })
first_refusal before (given t ∷ rest) = option_or (token_refusal before t) (first_refusal (1 + before) rest)

-- The tokens are the whole expansion of a source, and none of them is refused (C99 6.10).
pub record IsExpansion (source : List ℕ) (tokens : List Token) (names : ℕ) (out : List Token) : Type 0 where
  pub items_are : expansion source tokens names ≡ map given out
  pub passes : first_refusal 0 (expansion source tokens names) ≡ None

-- The expansion of a source has this refusal first, or there was no memory (C99 6.10).
abbrev pub StopsExpansion : List ℕ → List Token → ℕ → Stop → Type 0
StopsExpansion source tokens names (Refused refusal) = first_refusal 0 (expansion source tokens names) ≡ Some refusal
StopsExpansion source tokens names Memory = Unit {0}
