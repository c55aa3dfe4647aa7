-- The verdict on a run, with its record or its races where these were asked for, and the verdict on a record.
use Rattle.std.specs.Prelude.{ℕ, ◌≡◌, List, false, Some, None}
use Rattle.upc_top_words.specs.declared.call.Mode.{Mode}
use Rattle.upc_top_words.specs.declared.call.Mode.TheVariants.{Record, Races}
use Rattle.upc_values.specs.declared.journal.Journal.{Journal}
use Rattle.order_builder.specs.Named.{orders_of}
use Rattle.run_recorder_text.specs.Short.{HasText, is_short}
use Rattle.race_report_places.specs.Report.{IsReport}
use Rattle.typed_tree.specs.Programs.{Checked}
use Rattle.upc_top_judging.specs.Judgments.{IsJudgment}
use Rattle.upc_top.specs.declared.verdict.Verdict.{Verdict}
use Rattle.upc_top.specs.declared.verdict.Verdict.TheVariants.{Ran, Recorded, Overlong, Raced, Judged}
use Rattle.upc_top.specs.declared.verdict.Verdict.TheVariants.{NoMemory}

-- The verdict is the run with its orders and a text, that it is too long for one, or that memory was wanting for them.
abbrev pub IsRecordOf : Journal → Verdict → Type 0
IsRecordOf j (Recorded k o) = (k ≡ j) × (o ≡ orders_of j) × HasText j o
IsRecordOf j (Overlong k) = (k ≡ j) × (is_short j ≡ false)
IsRecordOf j (NoMemory (Some k)) = k ≡ j
IsRecordOf j v = ⊥

-- The verdict is the run with the report of its races, or that memory was wanting for them.
abbrev pub IsReportOf : Journal → Verdict → Type 0
IsReportOf j (Raced k report) = (k ≡ j) × IsReport j report.races
IsReportOf j (NoMemory (Some k)) = k ≡ j
IsReportOf j v = ⊥

-- The verdict is what is found of the bytes of a record for a program, or that memory was wanting for it.
abbrev pub IsJudgmentOf : Checked → List ℕ → Verdict → Type 0
IsJudgmentOf checked bytes (Judged judgment) = IsJudgment checked bytes judgment
IsJudgmentOf checked bytes (NoMemory None) = Unit {0}
IsJudgmentOf checked bytes v = ⊥

-- The verdict on a run by the mode: on its record in mode `record`, on its races in mode `races`, in every other mode
-- on what it prints.
abbrev pub IsShown : Mode → Journal → Verdict → Type 0
IsShown Record j v = IsRecordOf j v
IsShown Races j v = IsReportOf j v
IsShown mode j v = v ≡ Ran j
