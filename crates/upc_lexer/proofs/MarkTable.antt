-- Every mark stands in the table.
use Rattle.std.proofs.Common.{◌≡◌, ℕ, ◌<◌, ◌≤◌, List, Option, Some, map, length, get_or, refl, sym, ap, ◌∙◌, subst, lit<}
use Rattle.std.specs.List.{position}
use Rattle.upc_lexer.specs.Names.{is_same}
use Rattle.upc_lexer.specs.Marks.{mark_bytes}
use Rattle.upc_lexer.proofs.Lists.{falls_at}
use Rattle.upc_lexer.specs.declared.marks.TheConstants.{MARKS}
use Rattle.upc_lexer.specs.declared.token.Punct.{Punct}
use Rattle.upc_lexer.specs.declared.token.Punct.TheVariants.{ShiftLeftEqual, ShiftRightEqual, Arrow, PlusPlus, MinusMinus, ShiftLeft, ShiftRight, LessEqual, GreaterEqual, EqualEqual, NotEqual, AndAnd, OrOr, StarEqual, SlashEqual, PercentEqual, PlusEqual, MinusEqual, AmpersandEqual, CaretEqual, BarEqual, HashHash, LBracket, RBracket, LParen, RParen, LBrace, RBrace, Dot, Ampersand, Star, Plus, Minus, Tilde, Exclamation, Slash, Percent, Less, Greater, Caret, Bar, Question, Colon, Semicolon, Equal, Comma, Hash}

-- where it stands
abbrev pub place : Punct → ℕ
place ShiftLeftEqual = 0
place ShiftRightEqual = 1
place Arrow = 2
place PlusPlus = 3
place MinusMinus = 4
place ShiftLeft = 5
place ShiftRight = 6
place LessEqual = 7
place GreaterEqual = 8
place EqualEqual = 9
place NotEqual = 10
place AndAnd = 11
place OrOr = 12
place StarEqual = 13
place SlashEqual = 14
place PercentEqual = 15
place PlusEqual = 16
place MinusEqual = 17
place AmpersandEqual = 18
place CaretEqual = 19
place BarEqual = 20
place HashHash = 21
place LBracket = 22
place RBracket = 23
place LParen = 24
place RParen = 25
place LBrace = 26
place RBrace = 27
place Dot = 28
place Ampersand = 29
place Star = 30
place Plus = 31
place Minus = 32
place Tilde = 33
place Exclamation = 34
place Slash = 35
place Percent = 36
place Less = 37
place Greater = 38
place Caret = 39
place Bar = 40
place Question = 41
place Colon = 42
place Semicolon = 43
place Equal = 44
place Comma = 45
place Hash = 46

pub within : (x : Punct) → place x < 47
within ShiftLeftEqual = lit< tt
within ShiftRightEqual = lit< tt
within Arrow = lit< tt
within PlusPlus = lit< tt
within MinusMinus = lit< tt
within ShiftLeft = lit< tt
within ShiftRight = lit< tt
within LessEqual = lit< tt
within GreaterEqual = lit< tt
within EqualEqual = lit< tt
within NotEqual = lit< tt
within AndAnd = lit< tt
within OrOr = lit< tt
within StarEqual = lit< tt
within SlashEqual = lit< tt
within PercentEqual = lit< tt
within PlusEqual = lit< tt
within MinusEqual = lit< tt
within AmpersandEqual = lit< tt
within CaretEqual = lit< tt
within BarEqual = lit< tt
within HashHash = lit< tt
within LBracket = lit< tt
within RBracket = lit< tt
within LParen = lit< tt
within RParen = lit< tt
within LBrace = lit< tt
within RBrace = lit< tt
within Dot = lit< tt
within Ampersand = lit< tt
within Star = lit< tt
within Plus = lit< tt
within Minus = lit< tt
within Tilde = lit< tt
within Exclamation = lit< tt
within Slash = lit< tt
within Percent = lit< tt
within Less = lit< tt
within Greater = lit< tt
within Caret = lit< tt
within Bar = lit< tt
within Question = lit< tt
within Colon = lit< tt
within Semicolon = lit< tt
within Equal = lit< tt
within Comma = lit< tt
within Hash = lit< tt

pub found : (x : Punct) → get_or MARKS (place x) LBracket ≡ x
found ShiftLeftEqual = refl
found ShiftRightEqual = refl
found Arrow = refl
found PlusPlus = refl
found MinusMinus = refl
found ShiftLeft = refl
found ShiftRight = refl
found LessEqual = refl
found GreaterEqual = refl
found EqualEqual = refl
found NotEqual = refl
found AndAnd = refl
found OrOr = refl
found StarEqual = refl
found SlashEqual = refl
found PercentEqual = refl
found PlusEqual = refl
found MinusEqual = refl
found AmpersandEqual = refl
found CaretEqual = refl
found BarEqual = refl
found HashHash = refl
found LBracket = refl
found RBracket = refl
found LParen = refl
found RParen = refl
found LBrace = refl
found RBrace = refl
found Dot = refl
found Ampersand = refl
found Star = refl
found Plus = refl
found Minus = refl
found Tilde = refl
found Exclamation = refl
found Slash = refl
found Percent = refl
found Less = refl
found Greater = refl
found Caret = refl
found Bar = refl
found Question = refl
found Colon = refl
found Semicolon = refl
found Equal = refl
found Comma = refl
found Hash = refl

-- a mark that stands in the table after another is no longer
pub no_longer : (k : ℕ) (q : Punct) → k ≤ place q → length (mark_bytes q) ≤ length (mark_bytes (get_or MARKS k LBracket))
no_longer k q le =
    subst (λ x. length (mark_bytes x) ≤ length (mark_bytes (get_or MARKS k LBracket))) (found q)
    (falls_at (λ x. length (mark_bytes x)) MARKS LBracket k (place q) refl le (within q))

-- it stands there alone
abbrev place_of : List ℕ → Option ℕ
place_of text = position (is_same text) (map mark_bytes MARKS)

placed : (x : Punct) → place_of (mark_bytes x) ≡ Some (place x)
placed ShiftLeftEqual = refl
placed ShiftRightEqual = refl
placed Arrow = refl
placed PlusPlus = refl
placed MinusMinus = refl
placed ShiftLeft = refl
placed ShiftRight = refl
placed LessEqual = refl
placed GreaterEqual = refl
placed EqualEqual = refl
placed NotEqual = refl
placed AndAnd = refl
placed OrOr = refl
placed StarEqual = refl
placed SlashEqual = refl
placed PercentEqual = refl
placed PlusEqual = refl
placed MinusEqual = refl
placed AmpersandEqual = refl
placed CaretEqual = refl
placed BarEqual = refl
placed HashHash = refl
placed LBracket = refl
placed RBracket = refl
placed LParen = refl
placed RParen = refl
placed LBrace = refl
placed RBrace = refl
placed Dot = refl
placed Ampersand = refl
placed Star = refl
placed Plus = refl
placed Minus = refl
placed Tilde = refl
placed Exclamation = refl
placed Slash = refl
placed Percent = refl
placed Less = refl
placed Greater = refl
placed Caret = refl
placed Bar = refl
placed Question = refl
placed Colon = refl
placed Semicolon = refl
placed Equal = refl
placed Comma = refl
placed Hash = refl

pub one_spelling : (x y : Punct) → mark_bytes x ≡ mark_bytes y → x ≡ y
one_spelling x y e =
    let same : Some (place x) ≡ Some (place y) = sym (placed x) ∙ ap place_of e ∙ placed y in
    let at : place x ≡ place y = cc in
    sym (found x) ∙ ap (λ k. get_or MARKS k LBracket) at ∙ found y
