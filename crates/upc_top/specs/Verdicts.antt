-- The verdicts of the top call, their causes, and what each writes.
use Rattle.std.specs.Prelude.{ℕ, ◌≡◌, ◌≤◌, ◌⊎◌, true, false, List, [], length, Option, Some, None, codes, decimal}
use Rattle.upc_text.specs.declared.place.Refusal.{Refusal}
use Rattle.upc_text.specs.declared.faults.ReadEnd.{ReadEnd}
use Rattle.upc_text.specs.declared.faults.ReadEnd.TheVariants as ends
use Rattle.upc_text.specs.Outside.{Rose, IsWhole, IsLonger}
use Rattle.upc_values.specs.declared.journal.Journal.{Journal}
use Rattle.upc_values.specs.declared.order.Orders.{Orders}
use Rattle.upc_values.specs.Consistent.{begins}
use Rattle.typed_tree.specs.Programs.{Checked}
use Rattle.typed_tree.specs.ViewProgram.{view_program}
use Rattle.upc_top_words.specs.declared.call.Mode.{Mode}
use Rattle.upc_top_words.specs.declared.call.Mode.TheVariants.{Record, Check, Layout, Sample, Verify, Races}
use Rattle.upc_top_words.specs.declared.call.Mode.TheVariants.{Replica}
use Rattle.upc_top_words.specs.Values.{Asked, Asks, IsInRange}
use Rattle.source_meaning.specs.Laws.{opening_of}
use Rattle.upc_task.specs.declared.limits.Limits.{Limits}
use Rattle.program_runs.specs.Runs.{IsRunByRounds}
use Rattle.replica_space.specs.declared.event.ReplicaJournal.{ReplicaJournal}
use Rattle.replica_space.specs.Events.{history_in}
use Rattle.replica_space.specs.ReplicaSound.{as_journal}
use Rattle.program_runs_replicas.specs.Runs.{IsRunOnReplicas}
use Rattle.order_builder.specs.Named.{orders_of}
use Rattle.run_recorder_text.specs.Short.{HasText, is_short}
use Rattle.run_recorder_text.specs.Lines.{text}
use Rattle.race_report.specs.Serial.{serial_list}
use Rattle.race_report_places.specs.declared.report.Report.{Report}
use Rattle.race_report_places.specs.Report.{IsReport}
use Rattle.race_report_serial.specs.Sequential.{IsSequential}
use Rattle.race_report_text.specs.Lines.{text_of_report}
use Rattle.upc_sample.specs.Sample.{sample}
use Rattle.upc_top_judging.specs.declared.judgment.Judgment.{Judgment}
use Rattle.upc_top_judging.specs.Judgments.{IsJudgment, judgment_text, judgment_line, judgment_status}
use Rattle.upc_top.specs.declared.verdict.Verdict.{Verdict}
use Rattle.upc_top.specs.declared.verdict.Verdict.TheVariants.{Usage, ReadFault, TooLong, Refused, Ran, Passed, Laid}
use Rattle.upc_top.specs.declared.verdict.Verdict.TheVariants.{Recorded, Overlong, Raced, Replicated, Unwritten, Judged}
use Rattle.upc_top.specs.declared.verdict.Verdict.TheVariants.{NoMemory}
use Rattle.upc_top.specs.Words.{prints, runs}
use Rattle.upc_top.specs.Sources.{IsAccepted, IsRefused}
use Rattle.upc_top_output.specs.Layout.{layout}
use Rattle.upc_top_output.specs.Output.{output, status_of, run_line, refusal_line}

-- What the files hold, where that is known, and their counts of faults before and after.
pub record Reading : Type 0 where
  pub told : List ℕ → Option (List ℕ)
  pub before : List ℕ → ℕ
  pub after : List ℕ → ℕ

-- What the files hold and their counts, together.
abbrev pub reading : (List ℕ → Option (List ℕ)) → (List ℕ → ℕ) → (List ℕ → ℕ) → Reading
reading told before after = record { told = told; before = before; after = after }

-- What a run is limited to by what was asked for.
abbrev pub limits_of : Asked → Limits
limits_of a = record { threads = a.threads; budget = a.budget; actions = a.actions }

-- The bytes are accepted as a program, of which the journal is a sound run within what was asked for.
pub record RunsAs (a : Asked) (bytes : List ℕ) (j : Journal) : Type 0 where
  pub mode : runs a.mode ≡ true
  pub checked : Checked
  pub accepted : IsAccepted a.threads bytes checked
  pub run : IsRunByRounds checked (limits_of a) j

-- What the program prints was asked for, and the journal is its run.
pub record RanFrom (a : Asked) (bytes : List ℕ) (j : Journal) : Type 0 where
  pub prints : prints a.mode ≡ true
  pub run : RunsAs a bytes j

-- The record of a run was asked for, the journal is that run, and these are the run's orders, with which it has a text.
pub record RecordedFrom (a : Asked) (bytes : List ℕ) (j : Journal) (o : Orders) : Type 0 where
  pub mode : a.mode ≡ Record
  pub run : RunsAs a bytes j
  pub orders : o ≡ orders_of j
  pub has : HasText j o

-- The record of a run was asked for, the journal is that run, and it is too long for a text.
pub record OverlongFrom (a : Asked) (bytes : List ℕ) (j : Journal) : Type 0 where
  pub mode : a.mode ≡ Record
  pub run : RunsAs a bytes j
  pub long : is_short j ≡ false

-- No more was asked than whether the bytes are accepted, and they are.
pub record PassedFrom (a : Asked) (bytes : List ℕ) : Type 0 where
  pub mode : a.mode ≡ Check
  pub checked : Checked
  pub accepted : IsAccepted a.threads bytes checked

-- The layout of the bytes' program was asked for, and they are accepted as this program.
pub record LaidFrom (a : Asked) (bytes : List ℕ) (checked : Checked) : Type 0 where
  pub mode : a.mode ≡ Layout
  pub accepted : IsAccepted a.threads bytes checked

-- The races of a run were asked for, the journal is that run, and this is the report of them. Where it is empty, the
-- serial order makes the run sequentially consistent (UPC Appendix B).
pub record RacedFrom (a : Asked) (bytes : List ℕ) (j : Journal) (report : Report) : Type 0 where
  pub mode : a.mode ≡ Races
  pub run : RunsAs a bytes j
  pub reports : IsReport j report.races
  pub sequential :
      report.races ≡ [] → IsSequential (begins (opening_of run.checked) j.history) j (serial_list j)

-- A run on a memory in which each thread has its own copy was asked for, the bytes are accepted as a program, and the
-- journal is such a run of it within what was asked for.
pub record ReplicatedFrom (a : Asked) (bytes : List ℕ) (j : ReplicaJournal) : Type 0 where
  pub mode : a.mode ≡ Replica
  pub checked : Checked
  pub accepted : IsAccepted a.threads bytes checked
  pub run : IsRunOnReplicas checked (limits_of a) j

-- A record was to be judged on the bytes, they are accepted as a program, and P holds of it and of the record's name.
pub record OnRecord (a : Asked) (bytes : List ℕ) (P : Checked → List ℕ → Type 0) : Type 0 where
  pub mode : a.mode ≡ Verify
  pub checked : Checked
  pub accepted : IsAccepted a.threads bytes checked
  pub name : List ℕ
  pub named : a.recording ≡ Some name
  pub holds : P checked name

-- A file's bytes, where they are known, are no more than a record may have, and this was found of them for the program.
pub record JudgedFrom (told : Option (List ℕ)) (checked : Checked) (judgment : Judgment) : Type 0 where
  pub bytes : List ℕ
  pub whole : IsWhole told bytes
  pub short : length bytes ≤ 67108864
  pub judged : IsJudgment checked bytes judgment

-- What each verdict says of the bytes of a source that was read whole or made, and where a record is judged, of the
-- record: its count of faults rose, it has more bytes than a record may have, or this was found of it.
abbrev pub ComesFrom : Reading → Asked → List ℕ → Verdict → Type 0
ComesFrom r a bytes ReadFault = OnRecord a bytes (λ checked name. Rose (r.before name) (r.after name))
ComesFrom r a bytes TooLong = OnRecord a bytes (λ checked name. IsLonger (r.told name) 67108864)
ComesFrom r a bytes (Judged judgment) = OnRecord a bytes (λ checked name. JudgedFrom (r.told name) checked judgment)
ComesFrom r a bytes (Raced j report) = RacedFrom a bytes j report
ComesFrom r a bytes (Replicated j) = ReplicatedFrom a bytes j
ComesFrom r a bytes (Unwritten j) = ReplicatedFrom a bytes j
ComesFrom r a bytes (Refused refusal) = IsRefused a.threads bytes refusal
ComesFrom r a bytes (Ran j) = RanFrom a bytes j
ComesFrom r a bytes (Recorded j o) = RecordedFrom a bytes j o
ComesFrom r a bytes (Overlong j) = OverlongFrom a bytes j
ComesFrom r a bytes Passed = PassedFrom a bytes
ComesFrom r a bytes (Laid program) = LaidFrom a bytes (view_program program)
ComesFrom r a bytes (NoMemory None) = Unit {0}
ComesFrom r a bytes (NoMemory (Some j)) = RunsAs a bytes j
ComesFrom r a bytes v = ⊥

-- These are the file's bytes, where they are known, and no more than a source may have.
pub record IsFile (told : Option (List ℕ)) (bytes : List ℕ) : Type 0 where
  pub whole : IsWhole told bytes
  pub short : length bytes ≤ 1048576

-- The source that the FILE word asks for in mode `sample`: that of the number which the word is.
pub record IsSample (file bytes : List ℕ) : Type 0 where
  pub stages : ℕ
  pub most : stages ≤ 1000
  pub plain : file ≡ decimal stages
  pub made : bytes ≡ sample stages

-- The source that the words ask for: made in mode `sample`, in every other mode the file's bytes.
abbrev pub IsSource : Mode → List ℕ → Option (List ℕ) → List ℕ → Type 0
IsSource Sample file told bytes = IsSample file bytes
IsSource mode file told bytes = IsFile told bytes

-- These are the bytes of the source that is asked for, and P holds of them.
pub record Holds (r : Reading) (a : Asked) (P : List ℕ → Type 0) : Type 0 where
  pub bytes : List ℕ
  pub source : IsSource a.mode a.file (r.told a.file) bytes
  pub holds : P bytes

-- The words were taken, with each value in its range, and P holds of what they ask for.
pub record Taken (words : List (List ℕ)) (P : Asked → Type 0) : Type 0 where
  pub asked : Asked
  pub asks : Asks words asked
  pub range : IsInRange asked
  pub holds : P asked

-- The words were taken, the source was read whole or made, and this is the verdict on its bytes.
abbrev pub CameTo : List (List ℕ) → Reading → Verdict → Type 0
CameTo words r v = Taken words (λ a. Holds r a (λ bytes. ComesFrom r a bytes v))

-- A file is read in every mode but `sample`, and its count of faults rose.
pub record FailedToRead (r : Reading) (a : Asked) : Type 0 where
  pub file : a.mode ≡ Sample → ⊥
  pub rose : Rose (r.before a.file) (r.after a.file)

-- A file is read in every mode but `sample`, and where its bytes are known, they are more than a source may have.
pub record IsTooLong (r : Reading) (a : Asked) : Type 0 where
  pub file : a.mode ≡ Sample → ⊥
  pub longer : IsLonger (r.told a.file) 1048576

-- Why there is no source: a read failed, the file is too long, or there was no memory.
abbrev pub NoSource : Reading → Asked → ReadEnd → Type 0
NoSource r a ends.ReadFault = FailedToRead r a
NoSource r a ends.TooLong = IsTooLong r a
NoSource r a ends.Memory = Unit {0}

-- The cause of a verdict: of a failed read and of too many bytes it lies in the file or in the record; want of memory
-- needs none.
abbrev pub Caused : List (List ℕ) → Reading → Verdict → Type 0
Caused words r Usage = (a : Asked) → Asks words a → ⊥
Caused words r ReadFault = Taken words (λ a. FailedToRead r a) ⊎ CameTo words r ReadFault
Caused words r TooLong = Taken words (λ a. IsTooLong r a) ⊎ CameTo words r TooLong
Caused words r (NoMemory None) = Unit {0}
Caused words r v = CameTo words r v

-- The verdict where memory was wanting for what it writes.
abbrev pub without_memory : Verdict → Verdict
without_memory (Ran j) = NoMemory (Some j)
without_memory (Recorded j o) = NoMemory (Some j)
without_memory (Overlong j) = NoMemory (Some j)
without_memory (Raced j report) = NoMemory (Some j)
without_memory (Replicated j) = Unwritten j
without_memory (Unwritten j) = Unwritten j
without_memory (NoMemory o) = NoMemory o
without_memory v = NoMemory None

-- The text that a verdict writes to the output.
abbrev pub text_of : Verdict → List ℕ
text_of (Ran j) = output j.history
text_of (Recorded j o) = text j o
text_of (Raced j report) = text_of_report report
text_of (Replicated j) = output (history_in j.events)
text_of (Judged judgment) = judgment_text judgment
text_of Passed = codes "ok\n"
text_of (Laid program) = layout (view_program program)
text_of v = []

-- The line that a verdict writes to the error output.
abbrev pub line_of : Verdict → List ℕ
line_of Usage = codes "upc: usage\n"
line_of ReadFault = codes "upc: read fault\n"
line_of TooLong = codes "upc: source too long\n"
line_of (Refused r) = refusal_line r
line_of (Ran j) = run_line j
line_of (Recorded j o) = run_line j
line_of (Overlong j) = codes "upc: too long for a text\n"
line_of (Raced j report) = run_line j
line_of (Replicated j) = run_line (as_journal j)
line_of (Unwritten j) = codes "upc: no memory\n"
line_of (Judged judgment) = judgment_line judgment
line_of Passed = []
line_of (Laid program) = []
line_of (NoMemory j) = codes "upc: no memory\n"

-- The status that a verdict gives.
abbrev pub status_for : Verdict → ℕ
status_for Usage = 100
status_for ReadFault = 102
status_for TooLong = 110
status_for (Refused r) = 101
status_for (Ran j) = status_of j
status_for (Recorded j o) = status_of j
status_for (Overlong j) = 109
status_for (Raced j report) = status_of j
status_for (Replicated j) = status_of (as_journal j)
status_for (Unwritten j) = 104
status_for (Judged judgment) = judgment_status judgment
status_for Passed = 0
status_for (Laid program) = 0
status_for (NoMemory j) = 104

-- The refusal that a verdict hands out, if it is one.
abbrev pub refusal_of : Verdict → Option Refusal
refusal_of (Refused r) = Some r
refusal_of v = None

-- The journal that a verdict hands out, if there is one.
abbrev pub journal_of : Verdict → Option Journal
journal_of (Ran j) = Some j
journal_of (Recorded j o) = Some j
journal_of (Overlong j) = Some j
journal_of (Raced j report) = Some j
journal_of (NoMemory o) = o
journal_of v = None

-- The orders that a verdict hands out: those of a run of which a text was made.
abbrev pub orders_in : Verdict → Option Orders
orders_in (Recorded j o) = Some o
orders_in v = None

-- The run with a copy of the memory for each thread that a verdict hands out, if there is one.
abbrev pub replica_of : Verdict → Option ReplicaJournal
replica_of (Replicated j) = Some j
replica_of (Unwritten j) = Some j
replica_of v = None

-- What a verdict writes can be written: a record has a text.
abbrev pub IsWritable : Verdict → Type 0
IsWritable (Recorded j o) = HasText j o
IsWritable v = Unit {0}
