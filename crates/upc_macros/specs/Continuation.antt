-- Whether C99 goes on with a directive after the line that it begins on (C99 5.1.1.2, 6.10).
use Rattle.std.specs.Prelude.{ℕ, Bool, true, false, ◌==◌, if◌then◌else◌, List, [], ◌∷◌}
use Rattle.upc_lexer.specs.Bytes.{is_blank}
use Rattle.upc_macros.specs.declared.continuation.Reading.{Reading}
use Rattle.upc_macros.specs.declared.continuation.Reading.TheVariants.{Blank, Slash, Comment, Star, LineEnd, Text}

-- What was read after a directive's last token, with one more byte: a `//` comment ends with the line, and what is no
-- comment and no blank is a token.
abbrev pub after_byte : Reading → ℕ → Reading
after_byte Blank b = if b == 10 then LineEnd else (if is_blank b then Blank else (if b == 47 then Slash else Text))
after_byte Slash b = if b == 42 then Comment else (if b == 47 then LineEnd else Text)
after_byte Comment b = if b == 42 then Star else Comment
after_byte Star b = if b == 47 then Blank else (if b == 42 then Star else Comment)
after_byte LineEnd b = LineEnd
after_byte Text b = Text

-- A token was read; a `/` with nothing after it is one.
abbrev pub is_text : Reading → Bool
is_text Slash = true
is_text Text = true
is_text reading = false

-- A token comes before the end of a line that is in no comment: C99 puts one space in place of a comment (C99 5.1.1.2),
-- with the line ends in it, so that the line goes on.
abbrev pub goes_on : Reading → List ℕ → Bool
goes_on reading [] = is_text reading
goes_on reading (b ∷ bs) = goes_on (after_byte reading b) bs
