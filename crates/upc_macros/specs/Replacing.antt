-- Macro replacement (C99 6.10.3, object-like macros; 6.10.3.4).
use Rattle.std.specs.Prelude.{ℕ, zero, suc, List, [], ◌∷◌, Option, Some, None, option_and_then, slice_index_or}
use Rattle.std.specs.Prelude.{slice_set, flat_map, codes, if◌then◌else◌}
use Rattle.upc_lexer.specs.declared.token.Token.{Token}
use Rattle.upc_lexer.specs.declared.token.TokenKind.{TokenKind}
use Rattle.upc_lexer.specs.declared.token.TokenKind.TheVariants.{Name, Number}
use Rattle.upc_lexer.specs.declared.token.NumberKind.TheVariants.{Int}
use Rattle.upc_text.specs.declared.place.Place.{Place}
use Rattle.upc_macros.specs.Spelling.{is_spelled}

-- By the number of each name, the tokens that its macro stands for, if it is one (C99 6.10.3).
abbrev pub Macros : Type 0
Macros = List (Option (List Token))

-- The number of a token that is a name; none for any other token (C99 6.4.2).
abbrev pub name_number : TokenKind → Option ℕ
name_number (Name n) = Some n
name_number kind = None

-- The tokens that a token stands for; none where it is no macro (C99 6.10.3).
abbrev pub body_of : Macros → Token → Option (List Token)
body_of macros t = option_and_then (λ n. slice_index_or macros n None) (name_number t.kind)

-- The macros but that of this token (C99 6.10.3.4).
abbrev pub without : Macros → TokenKind → Macros
without macros (Name n) = slice_set macros n None
without macros kind = macros

-- A token that is no macro stays as it is, but `NULL` becomes the constant `0` (C99 7.17).
abbrev pub plain : List ℕ → Token → Token
plain source t = if is_spelled source t (codes "NULL") then record t { kind = Number 0 Int } else t

-- The tokens that a macro stands for, each replaced in turn; the token itself where it is no macro (C99 6.10.3).
abbrev pub or_replaced : Option (List Token) → Token → (Token → List Token) → List Token
or_replaced None t replace = t ∷ []
or_replaced (Some body) t replace = flat_map replace body

-- What a token becomes: the tokens that its macro stands for, each replaced in turn, where a macro is none in its own
-- replacement (C99 6.10.3, 6.10.3.4). So no more macros stand inside one another than there are, and their number
-- bounds the depth.
abbrev pub replaced : ℕ → List ℕ → Macros → Token → List Token
replaced zero source macros t = plain source t ∷ []
replaced (suc depth) source macros t = or_replaced (body_of macros t) (plain source t)
    (replaced depth source (without macros t.kind))

-- A token that comes from a macro has the place of the macro's use.
abbrev pub placed : Place → Token → Token
placed place t = record t { place = place }

-- How many names are macros.
abbrev pub defined_count : Macros → ℕ
defined_count [] = 0
defined_count (None ∷ macros) = defined_count macros
defined_count (Some body ∷ macros) = suc (defined_count macros)
