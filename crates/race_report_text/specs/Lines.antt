-- The lines of a race report, and its text.
use Rattle.std.specs.Prelude.{ℕ, [], ◌∷◌, ◌++◌, length, codes, decimal}
use Rattle.std.specs.List.{flat_map}
use Rattle.race_report_places.specs.declared.report.Race.{Race}
use Rattle.race_report_places.specs.declared.report.Report.{Report}
use Rattle.run_recorder_text.specs.Words.{Text, with_blanks, loc_text}
use Rattle.run_recorder_text.specs.Lines.{op_line}

-- The line of a race has its location and the names of its two operations, the earlier one first.
abbrev pub race_line : Race → Text
race_line r =
    with_blanks (codes "race" ∷ loc_text r.loc ∷ op_line r.first ∷ op_line r.second ∷ []) ++ codes "\n"

-- The last line has the count of the races.
abbrev pub count_line : ℕ → Text
count_line n = with_blanks (codes "races" ∷ decimal n ∷ []) ++ codes "\n"

-- The text of a report is the lines of its races, one after the other, and the line with their count.
abbrev pub text_of_report : Report → Text
text_of_report r = flat_map race_line r.races ++ count_line (length r.races)
