-- How the top call of the second program answers.
use Rattle.std.specs.Prelude.{ℕ, ◌≡◌, ◌⊎◌, List, []}
use Rattle.upc_text.specs.Outside.{Rose}
use Rattle.upc_values.specs.declared.journal.Journal.{Journal}
use Rattle.upc_values.specs.declared.order.Orders.{Orders}
use Rattle.typed_tree.specs.Programs.{Checked}
use Rattle.run_recorder_text.specs.Lines.{text}
use Rattle.upc_top.specs.Sources.{IsAccepted}
use Rattle.upc_top.specs.Verdicts.{Reading}
use Rattle.upc_top.specs.Delivery.{Writing, Gained, Broke, IsToldWhole}
use Rattle.outcomes.specs.Tally.{Listed}
use Rattle.outcomes.specs.Text.{list_text}
use Rattle.upc_outcomes_words.specs.Values.{Asked, Asks, Wanted, recorded}
use Rattle.upc_outcomes.specs.declared.verdict.Verdict.{Verdict}
use Rattle.upc_outcomes.specs.declared.verdict.Verdict.TheVariants.{NoMemory}
use Rattle.upc_outcomes.specs.Verdicts.{text_of, line_of, status_for}
use Rattle.upc_outcomes.specs.Causes.{Caused, FoundFrom, RecordedFrom, OverlongFrom}

-- A verdict was delivered with this status.
pub data Delivered (v : Verdict) (out err : Writing) (status : ℕ) : Type 0 where
  -- The text and the line were written.
  Whole : status ≡ status_for v → Gained out (text_of v) → Gained err (line_of v) → Delivered v out err status
  -- The output failed, and no line was tried.
  Out_broke : status ≡ 103 → Broke out (text_of v) → Gained err [] → Delivered v out err status
  -- The text was written, and the error output failed.
  Err_broke : status ≡ 103 → Gained out (text_of v) → Broke err (line_of v) → Delivered v out err status

-- A verdict, or the want of memory for what it writes, was delivered.
pub record Delivers (verdict : Verdict) (out err : Writing) (status : ℕ) : Type 0 where
  pub written : Verdict
  pub is : (written ≡ verdict) ⊎ (written ≡ NoMemory)
  pub delivered : Delivered written out err status

-- Some verdict, which has its cause, was delivered with this status.
pub record Answered (words : List (List ℕ)) (reading : Reading) (out err : Writing) (status : ℕ) : Type 0 where
  pub verdict : Verdict
  pub caused : Caused words reading verdict
  pub delivered : Delivered verdict out err status

-- Where the words are not taken, the answer is usage, a failed write or want of memory.
abbrev pub RefusesOtherWords : List (List ℕ) → ℕ → Type 0
RefusesOtherWords words status =
    ((a : Asked) → Asks words a → ⊥) → (status ≡ 100) ⊎ (status ≡ 103) ⊎ (status ≡ 104)

-- The words were taken, the bytes of their file are known and no more than a source may have, and no read and no write
-- failed.
pub record Succeeds (words : List (List ℕ)) (reading : Reading) (out err : Writing) (a : Asked)
    (bytes : List ℕ) : Type 0 where
  pub asks : Asks words a
  pub source : IsToldWhole reading a.file bytes
  pub out_written : Rose out.faults_before out.faults_after → ⊥
  pub err_written : Rose err.faults_before err.faults_after → ⊥

-- The status is 0, and the output gained the text of what the program's runs show by the lists that were asked for.
pub record HasListed (a : Asked) (bytes : List ℕ) (out : Writing) (status : ℕ) : Type 0 where
  pub many : ℕ
  pub list : List Listed
  pub found : FoundFrom a bytes many list
  pub status_is : status ≡ 0
  pub gained : Gained out (list_text many list)

-- The status is 0, and the output gained the text of the program's run by the list that was asked for.
pub record HasRecorded (a : Asked) (bytes : List ℕ) (out : Writing) (status : ℕ) : Type 0 where
  pub journal : Journal
  pub orders : Orders
  pub from : RecordedFrom a bytes journal orders
  pub status_is : status ≡ 0
  pub gained : Gained out (text journal orders)

-- The run whose record was asked for is too long for a text, with the status that says so.
pub record IsOverlong (a : Asked) (bytes : List ℕ) (status : ℕ) : Type 0 where
  pub from : OverlongFrom a bytes
  pub status_is : status ≡ 109

-- What is done where these lists are asked for, or memory was wanting: what runs show is listed; one run is recorded,
-- unless it is too long for a text.
abbrev pub IsDone : Wanted → Asked → List ℕ → Writing → ℕ → Type 0
IsDone (recorded picks) a bytes out status =
    HasRecorded a bytes out status ⊎ IsOverlong a bytes status ⊎ (status ≡ 104)
IsDone wanted a bytes out status = HasListed a bytes out status ⊎ (status ≡ 104)

-- Where the words were taken, the file is known and nothing failed, an accepted program is run as was asked for, and
-- what its runs show is written.
abbrev pub IsComplete : List (List ℕ) → Reading → Writing → Writing → ℕ → Type 0
IsComplete words reading out err status =
    (a : Asked) (bytes : List ℕ) (checked : Checked) → Succeeds words reading out err a bytes
    → IsAccepted a.threads bytes checked → IsDone a.wanted a bytes out status
