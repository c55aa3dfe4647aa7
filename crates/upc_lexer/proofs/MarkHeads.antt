-- How marks begin.
use Rattle.std.proofs.Common.{◌≡◌, ℕ, Bool, true, false, not, ◌&&◌, List, [], ◌∷◌, eqb, refl}
use Rattle.upc_lexer.specs.declared.token.Punct.{Punct}
use Rattle.upc_lexer.specs.declared.token.Punct.TheVariants.{ShiftLeftEqual, ShiftRightEqual, Arrow, PlusPlus, MinusMinus, ShiftLeft, ShiftRight, LessEqual, GreaterEqual, EqualEqual, NotEqual, AndAnd, OrOr, StarEqual, SlashEqual, PercentEqual, PlusEqual, MinusEqual, AmpersandEqual, CaretEqual, BarEqual, HashHash, LBracket, RBracket, LParen, RParen, LBrace, RBrace, Dot, Ampersand, Star, Plus, Minus, Tilde, Exclamation, Slash, Percent, Less, Greater, Caret, Bar, Question, Colon, Semicolon, Equal, Comma, Hash}
use Rattle.upc_lexer.specs.Bytes.{is_letter, is_digit, is_blank}
use Rattle.upc_lexer.specs.Tokens.{begins_number}
use Rattle.upc_lexer.specs.Marks.{mark_bytes}

-- what no name, number, character, string or blank begins with
abbrev pub is_mark_head : ℕ → Bool
is_mark_head b = not (is_letter b) && not (is_digit b) && not (is_blank b) && not (eqb b 39) && not (eqb b 34)

abbrev pub is_mark_like : List ℕ → Bool
is_mark_like [] = false
is_mark_like (b ∷ bs) = is_mark_head b && not (begins_number (b ∷ bs))

pub like : (m : Punct) → is_mark_like (mark_bytes m) ≡ true
like ShiftLeftEqual = refl
like ShiftRightEqual = refl
like Arrow = refl
like PlusPlus = refl
like MinusMinus = refl
like ShiftLeft = refl
like ShiftRight = refl
like LessEqual = refl
like GreaterEqual = refl
like EqualEqual = refl
like NotEqual = refl
like AndAnd = refl
like OrOr = refl
like StarEqual = refl
like SlashEqual = refl
like PercentEqual = refl
like PlusEqual = refl
like MinusEqual = refl
like AmpersandEqual = refl
like CaretEqual = refl
like BarEqual = refl
like HashHash = refl
like LBracket = refl
like RBracket = refl
like LParen = refl
like RParen = refl
like LBrace = refl
like RBrace = refl
like Dot = refl
like Ampersand = refl
like Star = refl
like Plus = refl
like Minus = refl
like Tilde = refl
like Exclamation = refl
like Slash = refl
like Percent = refl
like Less = refl
like Greater = refl
like Caret = refl
like Bar = refl
like Question = refl
like Colon = refl
like Semicolon = refl
like Equal = refl
like Comma = refl
like Hash = refl
