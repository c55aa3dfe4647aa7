-- Tests of the tokens that come next.
use Rattle.std.specs.Prelude.{Bool, true, false, not, List}
use Rattle.upc_lexer.specs.declared.token.Token.{Token}
use Rattle.upc_lexer.specs.declared.token.TokenKind.{TokenKind}
use Rattle.upc_lexer.specs.declared.token.TokenKind.TheVariants as token_kind
use Rattle.upc_parser_ground.specs.declared.ahead.Sign.{Sign}
use Rattle.upc_parser_ground.specs.declared.ahead.Sign.TheVariants as signs
use Rattle.upc_parser_ground.specs.declared.ahead.Ahead.{Ahead}
use Rattle.upc_parser_ground.specs.declared.ahead.Ahead.TheVariants as ahead_variant
use Rattle.upc_parser_ground.specs.layer.Outcome.{is_punct, is_word, starts, starts_two}
use Rattle.upc_parser_ground.specs.layer.Tables.{is_qual, is_spec, is_string}

-- Whether a token is a pragma (UPC 6.7).
abbrev pub is_pragma : TokenKind → Bool
is_pragma (token_kind.Pragma strict) = true
is_pragma _ = false

-- A test that every token passes.
abbrev pub is_any : TokenKind → Bool
is_any kind = true

-- Whether a token passes a test.
abbrev pub passes : Sign → TokenKind → Bool
passes (signs.Punct mark) = is_punct mark
passes (signs.Word word) = is_word word
passes (signs.Spec local) = is_spec local
passes signs.Qual = is_qual
passes signs.String = is_string
passes signs.Pragma = is_pragma
passes (signs.Unlike mark) = λ kind. not (is_punct mark kind)
passes signs.Any = is_any

-- Whether the tokens that come next pass a test of the first, or of the first two.
abbrev pub shows : Ahead → List Token → Bool
shows (ahead_variant.One sign) = starts (passes sign)
shows (ahead_variant.Two sign next) = starts_two (passes sign) (passes next)
