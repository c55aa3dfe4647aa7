-- The verdicts of the top call, and what each writes.
use Rattle.std.specs.Prelude.{ℕ, List, [], map, codes}
use Rattle.upc_top_output.specs.Output.{refusal_line}
use Rattle.run_recorder_text.specs.Short.{HasText}
use Rattle.run_recorder_text.specs.Lines.{text}
use Rattle.outcomes.specs.Tally.{listed}
use Rattle.outcomes.specs.Text.{list_text}
use Rattle.upc_outcomes.specs.declared.verdict.Verdict.{Verdict}
use Rattle.upc_outcomes.specs.declared.verdict.Verdict.TheVariants.{Usage, ReadFault, TooLong, Refused, Found, Recorded}
use Rattle.upc_outcomes.specs.declared.verdict.Verdict.TheVariants.{Overlong, NoMemory}

-- The text that a verdict writes to the output: what the runs show, or the text of one run.
abbrev pub text_of : Verdict → List ℕ
text_of (Found many rows) = list_text many (map listed rows.items)
text_of (Recorded j o) = text j o
text_of v = []

-- The line that a verdict writes to the error output, as `upc` does.
abbrev pub line_of : Verdict → List ℕ
line_of Usage = codes "upc: usage\n"
line_of ReadFault = codes "upc: read fault\n"
line_of TooLong = codes "upc: source too long\n"
line_of (Refused r) = refusal_line r
line_of (Found many rows) = []
line_of (Recorded j o) = []
line_of Overlong = codes "upc: too long for a text\n"
line_of NoMemory = codes "upc: no memory\n"

-- The status that a verdict gives.
abbrev pub status_for : Verdict → ℕ
status_for (Found many rows) = 0
status_for (Recorded j o) = 0
status_for Usage = 100
status_for (Refused r) = 101
status_for ReadFault = 102
status_for NoMemory = 104
status_for Overlong = 109
status_for TooLong = 110

-- What a verdict writes can be written: a record has a text.
abbrev pub IsWritable : Verdict → Type 0
IsWritable (Recorded j o) = HasText j o
IsWritable v = Unit {0}
