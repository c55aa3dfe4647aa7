-- How each mark is spelled (C99 6.4.6).
use Rattle.std.specs.Prelude.{ℕ, List, codes}
use Rattle.upc_lexer.specs.declared.token.Punct.{Punct}
use Rattle.upc_lexer.specs.declared.token.Punct.TheVariants.{LBracket, RBracket, LParen, RParen, LBrace, RBrace, Dot}
use Rattle.upc_lexer.specs.declared.token.Punct.TheVariants.{Arrow, PlusPlus, MinusMinus, Ampersand, Star, Plus}
use Rattle.upc_lexer.specs.declared.token.Punct.TheVariants.{Minus, Tilde, Exclamation, Slash, Percent, ShiftLeft}
use Rattle.upc_lexer.specs.declared.token.Punct.TheVariants.{ShiftRight, Less, Greater, LessEqual, GreaterEqual}
use Rattle.upc_lexer.specs.declared.token.Punct.TheVariants.{EqualEqual, NotEqual, Caret, Bar, AndAnd, OrOr, Question}
use Rattle.upc_lexer.specs.declared.token.Punct.TheVariants.{Colon, Semicolon, Equal, StarEqual, SlashEqual}
use Rattle.upc_lexer.specs.declared.token.Punct.TheVariants.{PercentEqual, PlusEqual, MinusEqual, ShiftLeftEqual}
use Rattle.upc_lexer.specs.declared.token.Punct.TheVariants.{ShiftRightEqual, AmpersandEqual, CaretEqual, BarEqual}
use Rattle.upc_lexer.specs.declared.token.Punct.TheVariants.{Comma, Hash, HashHash}

-- The bytes of each mark (C99 6.4.6).
abbrev pub mark_bytes : Punct → List ℕ
mark_bytes LBracket = codes "["
mark_bytes RBracket = codes "]"
mark_bytes LParen = codes "("
mark_bytes RParen = codes ")"
mark_bytes LBrace = codes "{"
mark_bytes RBrace = codes "}"
mark_bytes Dot = codes "."
mark_bytes Arrow = codes "->"
mark_bytes PlusPlus = codes "++"
mark_bytes MinusMinus = codes "--"
mark_bytes Ampersand = codes "&"
mark_bytes Star = codes "*"
mark_bytes Plus = codes "+"
mark_bytes Minus = codes "-"
mark_bytes Tilde = codes "~"
mark_bytes Exclamation = codes "!"
mark_bytes Slash = codes "/"
mark_bytes Percent = codes "%"
mark_bytes ShiftLeft = codes "<<"
mark_bytes ShiftRight = codes ">>"
mark_bytes Less = codes "<"
mark_bytes Greater = codes ">"
mark_bytes LessEqual = codes "<="
mark_bytes GreaterEqual = codes ">="
mark_bytes EqualEqual = codes "=="
mark_bytes NotEqual = codes "!="
mark_bytes Caret = codes "^"
mark_bytes Bar = codes "|"
mark_bytes AndAnd = codes "&&"
mark_bytes OrOr = codes "||"
mark_bytes Question = codes "?"
mark_bytes Colon = codes ":"
mark_bytes Semicolon = codes ";"
mark_bytes Equal = codes "="
mark_bytes StarEqual = codes "*="
mark_bytes SlashEqual = codes "/="
mark_bytes PercentEqual = codes "%="
mark_bytes PlusEqual = codes "+="
mark_bytes MinusEqual = codes "-="
mark_bytes ShiftLeftEqual = codes "<<="
mark_bytes ShiftRightEqual = codes ">>="
mark_bytes AmpersandEqual = codes "&="
mark_bytes CaretEqual = codes "^="
mark_bytes BarEqual = codes "|="
mark_bytes Comma = codes ","
mark_bytes Hash = codes "#"
mark_bytes HashHash = codes "##"
