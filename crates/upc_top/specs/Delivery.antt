-- How a verdict is written: the text to the output, then the line to the error output.
use Rattle.std.specs.Prelude.{ℕ, ◌≡◌, ◌≤◌, ◌<◌, ◌⊎◌, false, List, [], length, Option, Some, codes}
use Rattle.upc_text.specs.Outside.{Rose, taken_with, TookPrefix}
use Rattle.upc_values.specs.declared.journal.Journal.{Journal}
use Rattle.upc_values.specs.declared.order.Orders.{Orders}
use Rattle.run_recorder_text.specs.Short.{is_short}
use Rattle.run_recorder_text.specs.Lines.{text}
use Rattle.typed_tree.specs.Programs.{Checked}
use Rattle.upc_top_words.specs.declared.call.Mode.{Mode}
use Rattle.upc_top_words.specs.declared.call.Mode.TheVariants.{Run, Record, Check, Layout, Sample, Verify, Races}
use Rattle.upc_top_words.specs.declared.call.Mode.TheVariants.{Replica}
use Rattle.upc_top_words.specs.Values.{Asked, Asks}
use Rattle.replica_space.specs.declared.event.ReplicaJournal.{ReplicaJournal}
use Rattle.replica_space.specs.Events.{history_in}
use Rattle.replica_space.specs.ReplicaSound.{as_journal}
use Rattle.race_report_places.specs.declared.report.Report.{Report}
use Rattle.race_report_places.specs.Report.{IsReport}
use Rattle.race_report_text.specs.Lines.{text_of_report}
use Rattle.upc_top_judging.specs.declared.judgment.Judgment.{Judgment}
use Rattle.upc_top_judging.specs.Judgments.{IsJudgment, judgment_text, judgment_status}
use Rattle.upc_top.specs.declared.verdict.Verdict.{Verdict}
use Rattle.upc_top.specs.declared.done.Done.{Done}
use Rattle.upc_top.specs.Sources.{IsAccepted}
use Rattle.upc_top_output.specs.Layout.{layout}
use Rattle.upc_top_output.specs.Output.{output, status_of}
use Rattle.upc_top.specs.Verdicts.{Reading, Caused, text_of, line_of, status_for, refusal_of, journal_of}
use Rattle.upc_top.specs.Verdicts.{without_memory, orders_in, replica_of, IsSample}

-- What a sink has taken, where that is known, and its count of faults, before and after.
pub record Writing : Type 0 where
  pub taken_before : Option (List ℕ)
  pub taken_after : Option (List ℕ)
  pub faults_before : ℕ
  pub faults_after : ℕ

-- What a sink has taken and its counts, together.
abbrev pub writing : Option (List ℕ) → Option (List ℕ) → ℕ → ℕ → Writing
writing taken_before taken_after faults_before faults_after = record {
  taken_before = taken_before;
  taken_after = taken_after;
  faults_before = faults_before;
  faults_after = faults_after;
}

-- The sink took just these bytes.
abbrev pub Gained : Writing → List ℕ → Type 0
Gained w bytes = w.taken_after ≡ taken_with w.taken_before bytes

-- There was something to write, and a put failed after the first of these bytes.
pub record Broke (w : Writing) (bytes : List ℕ) : Type 0 where
  pub some : 0 < length bytes
  pub part : TookPrefix w.taken_before w.taken_after bytes
  pub cause : Rose w.faults_before w.faults_after

-- A verdict was delivered with this status.
pub data Delivered (v : Verdict) (out err : Writing) (status : ℕ) : Type 0 where
  -- The text and the line were written.
  Whole : status ≡ status_for v → Gained out (text_of v) → Gained err (line_of v) → Delivered v out err status
  -- The output failed, and no line was tried.
  Out_broke : status ≡ 103 → Broke out (text_of v) → Gained err [] → Delivered v out err status
  -- The text was written, and the error output failed.
  Err_broke : status ≡ 103 → Gained out (text_of v) → Broke err (line_of v) → Delivered v out err status

-- What was done about a verdict: it, or the want of memory for what it writes, was delivered and handed out.
pub record Delivers (verdict : Verdict) (out err : Writing) (done : Done) : Type 0 where
  pub written : Verdict
  pub is : (written ≡ verdict) ⊎ (written ≡ without_memory verdict)
  pub delivered : Delivered written out err done.status
  pub refusal : done.refusal ≡ refusal_of written
  pub journal : done.journal ≡ journal_of written
  pub orders : done.orders ≡ orders_in written
  pub replica : done.replica ≡ replica_of written

-- How the top call answers: some verdict, which has its cause, was delivered and handed out.
pub record Answered (words : List (List ℕ)) (reading : Reading) (out err : Writing) (done : Done) : Type 0 where
  pub verdict : Verdict
  pub caused : Caused words reading verdict
  pub delivered : Delivered verdict out err done.status
  pub refusal : done.refusal ≡ refusal_of verdict
  pub journal : done.journal ≡ journal_of verdict
  pub orders : done.orders ≡ orders_in verdict
  pub replica : done.replica ≡ replica_of verdict

-- Where the words are not taken, the answer is usage, a failed write or want of memory.
abbrev pub RefusesOtherWords : List (List ℕ) → Done → Type 0
RefusesOtherWords words done =
    ((a : Asked) → Asks words a → ⊥) → (done.status ≡ 100) ⊎ (done.status ≡ 103) ⊎ (done.status ≡ 104)

-- A file that is read, whose bytes are known and more than a source may have, is not run, and not refused for what it
-- holds: the answer is that it is too long, a failed read, a failed write or want of memory.
abbrev pub RefusesLongFiles : List (List ℕ) → Reading → Done → Type 0
RefusesLongFiles words reading done =
    (a : Asked) (bytes : List ℕ) → Asks words a → (a.mode ≡ Sample → ⊥) → reading.told a.file ≡ Some bytes
    → 1048576 < length bytes → (done.status ≡ 110) ⊎ (done.status ≡ 102) ⊎ (done.status ≡ 103) ⊎ (done.status ≡ 104)

-- In mode `sample` no file is read: after the call the sources are what they were before it.
abbrev pub SampleReadsNoFile : {S : Type 0} → List (List ℕ) → S → S → Type 0
SampleReadsNoFile words before after = (a : Asked) → Asks words a → a.mode ≡ Sample → after ≡ before

-- The file's bytes are known and no more than a source may have, and no read of it failed.
pub record IsToldWhole (reading : Reading) (file bytes : List ℕ) : Type 0 where
  pub told : reading.told file ≡ Some bytes
  pub short : length bytes ≤ 1048576
  pub read : Rose (reading.before file) (reading.after file) → ⊥

-- The source that the words ask for is there: made in mode `sample`, in every other mode the file's bytes.
abbrev pub IsThere : Mode → Reading → List ℕ → List ℕ → Type 0
IsThere Sample reading file bytes = IsSample file bytes
IsThere mode reading file bytes = IsToldWhole reading file bytes

-- The words were taken, their source is there, and no write failed.
pub record Succeeds (words : List (List ℕ)) (reading : Reading) (out err : Writing) (a : Asked)
    (bytes : List ℕ) : Type 0 where
  pub asks : Asks words a
  pub source : IsThere a.mode reading a.file bytes
  pub out_written : Rose out.faults_before out.faults_after → ⊥
  pub err_written : Rose err.faults_before err.faults_after → ⊥

-- There is a journal, with its status, and the output gained what it prints.
pub record HasRun (out : Writing) (done : Done) : Type 0 where
  pub journal : Journal
  pub is : done.journal ≡ Some journal
  pub status : done.status ≡ status_of journal
  pub text : Gained out (output journal.history)

-- There are a journal and its orders, with the journal's status, and the output gained their text.
pub record HasRecorded (out : Writing) (done : Done) : Type 0 where
  pub journal : Journal
  pub is : done.journal ≡ Some journal
  pub orders : Orders
  pub are : done.orders ≡ Some orders
  pub status : done.status ≡ status_of journal
  pub text : Gained out (text journal orders)

-- There is a journal that is too long for a text, with the status that says so.
pub record IsOverlong (done : Done) : Type 0 where
  pub journal : Journal
  pub is : done.journal ≡ Some journal
  pub long : is_short journal ≡ false
  pub status : done.status ≡ 109

-- There are a journal and the report of its races, with the journal's status, and the output gained the report's text.
pub record HasRaced (out : Writing) (done : Done) : Type 0 where
  pub journal : Journal
  pub is : done.journal ≡ Some journal
  pub report : Report
  pub reports : IsReport journal report.races
  pub status : done.status ≡ status_of journal
  pub text : Gained out (text_of_report report)

-- There is a run with a copy of the shared memory for each thread, with its status, and the output gained what it
-- prints.
pub record HasReplicated (out : Writing) (done : Done) : Type 0 where
  pub journal : ReplicaJournal
  pub is : done.replica ≡ Some journal
  pub status : done.status ≡ status_of (as_journal journal)
  pub text : Gained out (output (history_in journal.events))

-- The bytes of a record are known, and no read of it failed.
pub record IsTold (reading : Reading) (name bytes : List ℕ) : Type 0 where
  pub told : reading.told name ≡ Some bytes
  pub read : Rose (reading.before name) (reading.after name) → ⊥

-- What is done about the bytes of a record, for a program.
pub data HasJudged (checked : Checked) (bytes : List ℕ) (out : Writing) (done : Done) : Type 0 where
  -- They are more than a record may have, and the status says so.
  Is_long : 67108864 < length bytes → done.status ≡ 110 → HasJudged checked bytes out done
  -- This is found of them; the output gained its text, and the status is that of it.
  Is_found :
      (judgment : Judgment) → length bytes ≤ 67108864 → IsJudgment checked bytes judgment
      → done.status ≡ judgment_status judgment → Gained out (judgment_text judgment) → HasJudged checked bytes out done

-- The status is 0, and the output gained this text.
pub record HasWritten (out : Writing) (done : Done) (text : List ℕ) : Type 0 where
  pub status : done.status ≡ 0
  pub gained : Gained out text

-- What is done with bytes in each mode, or memory was wanting: an accepted source is run, or run and recorded unless
-- its run is too long for a text, or run and its races told, or run with a copy of the memory for each thread, or is
-- passed, or laid out, or a record is judged on it, if the record's bytes are known and no read of it failed.
abbrev pub IsDone : Mode → Reading → Asked → List ℕ → Writing → Done → Type 0
IsDone Run r a bytes out done =
    (checked : Checked) → IsAccepted a.threads bytes checked → HasRun out done ⊎ (done.status ≡ 104)
IsDone Sample r a bytes out done =
    (checked : Checked) → IsAccepted a.threads bytes checked → HasRun out done ⊎ (done.status ≡ 104)
IsDone Record r a bytes out done =
    (checked : Checked) → IsAccepted a.threads bytes checked
    → HasRecorded out done ⊎ IsOverlong done ⊎ (done.status ≡ 104)
IsDone Check r a bytes out done =
    (checked : Checked) → IsAccepted a.threads bytes checked → HasWritten out done (codes "ok\n") ⊎ (done.status ≡ 104)
IsDone Layout r a bytes out done =
    (checked : Checked) → IsAccepted a.threads bytes checked
    → HasWritten out done (layout checked) ⊎ (done.status ≡ 104)
IsDone Races r a bytes out done =
    (checked : Checked) → IsAccepted a.threads bytes checked → HasRaced out done ⊎ (done.status ≡ 104)
IsDone Replica r a bytes out done =
    (checked : Checked) → IsAccepted a.threads bytes checked → HasReplicated out done ⊎ (done.status ≡ 104)
IsDone Verify r a bytes out done =
    (checked : Checked) (name record_bytes : List ℕ) → IsAccepted a.threads bytes checked → a.recording ≡ Some name
    → IsTold r name record_bytes → HasJudged checked record_bytes out done ⊎ (done.status ≡ 104)

-- Where the words were taken, their source is there and nothing failed, what its mode says is done with an accepted
-- source.
abbrev pub IsComplete : List (List ℕ) → Reading → Writing → Writing → Done → Type 0
IsComplete words reading out err done =
    (a : Asked) (bytes : List ℕ) → Succeeds words reading out err a bytes → IsDone a.mode reading a bytes out done
