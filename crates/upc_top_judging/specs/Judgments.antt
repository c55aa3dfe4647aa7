-- What is found of the bytes of a record, and what is written of it.
use Rattle.std.specs.Prelude.{ℕ, ◌≡◌, List, [], codes}
use Rattle.upc_values.specs.declared.journal.Journal.{Journal}
use Rattle.upc_values.specs.declared.order.Orders.{Orders}
use Rattle.typed_tree.specs.Programs.{Checked}
use Rattle.run_recorder_text.specs.Lines.{text, old_text}
use Rattle.run_recorder.specs.Recorded.{IsRecordable, IsNoText}
use Rattle.upc_verify_judge.specs.declared.verdict.Verdict as verdict
use Rattle.upc_verify_judge.specs.declared.verdict.Verdict.TheVariants.{Sound, Broken}
use Rattle.upc_verify.specs.Verdicts.{IsVerdict, IsSoundRun}
use Rattle.upc_top_output.specs.Output.{bad_record_line, broken_line}
use Rattle.upc_top_judging.specs.declared.judgment.Judgment.{Judgment}
use Rattle.upc_top_judging.specs.declared.judgment.Judgment.TheVariants.{BadText, OldText, Judged}

-- The bytes are the old text of a run.
pub record IsOldText (bytes : List ℕ) : Type 0 where
  pub journal : Journal
  pub orders : Orders
  pub recordable : IsRecordable journal orders
  pub is : bytes ≡ old_text journal orders

-- The bytes are the text of a run with its orders, and this is the verdict on them as a record of the program. Where it
-- is Sound, the run is a sound one of the program, and the orders make it UPC consistent (UPC Appendix B).
pub record IsJudgedText (program : Checked) (bytes : List ℕ) (found : verdict.Verdict) : Type 0 where
  pub journal : Journal
  pub orders : Orders
  pub recordable : IsRecordable journal orders
  pub is : bytes ≡ text journal orders
  pub judged : IsVerdict (record { program = program; journal = journal; orders = orders }) found
  pub sound : found ≡ Sound → IsSoundRun (record { program = program; journal = journal; orders = orders })

-- What is found of the bytes of a record: that no run has them as its text, that they are an old text, or the verdict
-- on the run whose text they are.
abbrev pub IsJudgment : Checked → List ℕ → Judgment → Type 0
IsJudgment program bytes (BadText place) = IsNoText bytes
IsJudgment program bytes OldText = IsOldText bytes
IsJudgment program bytes (Judged v) = IsJudgedText program bytes v

-- The text that a record's judgment writes to the output.
abbrev pub judgment_text : Judgment → List ℕ
judgment_text (Judged Sound) = codes "sound\n"
judgment_text x = []

-- The line that it writes to the error output.
abbrev pub judgment_line : Judgment → List ℕ
judgment_line (BadText place) = bad_record_line place
judgment_line OldText = codes "upc: old record\n"
judgment_line (Judged Sound) = []
judgment_line (Judged (Broken part thread)) = broken_line part thread

-- The status that it gives.
abbrev pub judgment_status : Judgment → ℕ
judgment_status (BadText place) = 112
judgment_status OldText = 113
judgment_status (Judged Sound) = 0
judgment_status (Judged (Broken part thread)) = 111
