-- Words and lines one after another, as they are written.
use Rattle.std.specs.Prelude.{List, [], ◌∷◌, ◌++◌}
use Rattle.run_recorder_text.specs.Words.{Text}

-- Each word with a blank before it.
abbrev pub after_blanks : List Text → Text
after_blanks [] = []
after_blanks (w ∷ ws) = 32 ∷ (w ++ after_blanks ws)

-- Each line with its line end after it.
abbrev pub rows : List Text → Text
rows [] = []
rows (l ∷ ls) = l ++ (10 ∷ rows ls)
