-- The token that stands at a place.
use Rattle.std.specs.Prelude.{List, [], ◌∷◌}
use Rattle.upc_lexer.specs.declared.token.Token.{Token}
use Rattle.upc_lexer.specs.declared.token.TokenKind.{TokenKind}
use Rattle.upc_lexer.specs.declared.token.TokenKind.TheVariants as token_kind
use Rattle.upc_lexer.specs.declared.token.Punct.{Punct}
use Rattle.upc_lexer.specs.declared.token.Word.{Word}
use Rattle.upc_tree.specs.declared.span.Span.{Span}
use Rattle.upc_tree.specs.declared.span.Name.{Name}
use Rattle.upc_tree.specs.declared.span.StringLiteral.{StringLiteral}
use Rattle.upc_tree.specs.declared.span.Pragma.{Pragma}

-- A token of this kind at this place (C99 6.4).
abbrev pub token : TokenKind → Span → Token
token kind span = record { kind = kind; start = span.start; end = span.end; place = span.place }

-- The token of a mark at a place (C99 6.4.6).
abbrev pub punct : Punct → Span → Token
punct mark span = token (token_kind.Punct mark) span

-- The token of a word at a place (C99 6.4.1, UPC 6.2).
abbrev pub word : Word → Span → Token
word w span = token (token_kind.Word w) span

-- The token of a name, at the place of the name (C99 6.4.2).
abbrev pub name_token : Name → Token
name_token n = token (token_kind.Name n.number) n.span

-- The token of a string literal, at the place of the literal (C99 6.4.5).
abbrev pub string_token : StringLiteral → Token
string_token s = token (token_kind.Str s.bytes) s.span

-- The token of a pragma, strict or relaxed, at the place of the pragma (UPC 6.7).
abbrev pub pragma_token : Pragma → Token
pragma_token p = token (token_kind.Pragma p.strict) p.span

-- The tokens of string literals that stand side by side, and what follows them (C99 6.4.5).
abbrev pub spell_strings : List StringLiteral → List Token → List Token
spell_strings [] rest = rest
spell_strings (s ∷ more) rest = string_token s ∷ spell_strings more rest

-- The tokens of the pragmas at the start of a block, and what follows them (UPC 6.7).
abbrev pub spell_pragmas : List Pragma → List Token → List Token
spell_pragmas [] rest = rest
spell_pragmas (p ∷ more) rest = pragma_token p ∷ spell_pragmas more rest
