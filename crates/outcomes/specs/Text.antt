-- The list of what runs show, in text.
use Rattle.std.specs.Prelude.{ℕ, Bool, true, false, ◌==◌, List, [], ◌∷◌, ◌++◌, codes, decimal}
use Rattle.std.specs.List.{flat_map}
use Rattle.outcomes.specs.Tally.{Listed}

-- Picks in decimal, each after a comma.
abbrev pub more_picks : List ℕ → List ℕ
more_picks picks = flat_map (λ p. codes "," ++ decimal p) picks

-- A list of picks in decimal, with a comma between two, or `none`.
abbrev pub picks_text : List ℕ → List ℕ
picks_text [] = codes "none"
picks_text (p ∷ picks) = decimal p ++ more_picks picks

-- A text with four blanks before each of its lines; where it ends without a line end, a line that says so follows. The
-- bool says whether a line begins.
abbrev pub indented : Bool → List ℕ → List ℕ
indented true [] = []
indented false [] = codes "\n\\ no line end\n"
indented true (b ∷ text) = codes "    " ++ b ∷ indented (b == 10) text
indented false (b ∷ text) = b ∷ indented (b == 10) text

-- The first line of what is listed: `N of M: status S, picks P1,P2,..`.
abbrev pub head_text : ℕ → Listed → List ℕ
head_text many l =
    decimal l.count ++ codes " of " ++ decimal many ++ codes ": status " ++ decimal l.shown.status
    ++ codes ", picks " ++ picks_text l.picks ++ codes "\n"

-- What is listed: its first line, what is printed, indented, and the line on the error output.
abbrev pub listed_text : ℕ → Listed → List ℕ
listed_text many l = head_text many l ++ indented true l.shown.text ++ l.shown.line

-- What so many runs show.
abbrev pub list_text : ℕ → List Listed → List ℕ
list_text many list = flat_map (listed_text many) list
