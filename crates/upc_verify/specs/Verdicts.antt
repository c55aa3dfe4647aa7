-- The verdict on a record of a program.
use Rattle.std.specs.Prelude.{ℕ, ◌<◌, ◌↔◌, List}
use Rattle.upc_values.specs.declared.action.Reply.{Reply}
use Rattle.upc_values.specs.declared.journal.Journal.{Journal}
use Rattle.upc_values.specs.declared.order.Orders.{Orders}
use Rattle.upc_values.specs.Outcomes.{Outcome}
use Rattle.typed_tree.specs.Programs.{Checked}
use Rattle.source_meaning.specs.Laws.{opening_of}
use Rattle.source_meaning.specs.Threads.{thread_outcome}
use Rattle.upc_verify_judge.specs.declared.verdict.Verdict.{Verdict}
use Rattle.upc_verify_judge.specs.Verdicts as judge
use Rattle.upc_verify_judge.specs.Verdicts.{Case, AllHold}

-- What is judged: a journal and orders, as a record of this program.
pub record Judged : Type 0 where
  pub program : Checked
  pub journal : Journal
  pub orders : Orders

-- What each thread's source comes to, by budget, thread and replies (C99 5.1.2.3).
abbrev pub meaning : Checked → (budget thread : ℕ) → List Reply → Outcome
meaning program budget t = thread_outcome program t budget

-- It is judged by what the program begins with and what its source means.
abbrev pub case_of : Judged → Case
case_of w = judge.case_of (opening_of w.program) (meaning w.program) w.journal w.orders

-- Sound: each part holds of each thread. Broken: the first part that fails, of the first thread of which it does.
abbrev pub IsVerdict : Judged → Verdict → Type 0
IsVerdict w v = judge.IsVerdict (case_of w) v

-- The journal is one of a sound run of the program, and the orders make its operations UPC consistent (UPC Appendix B).
abbrev pub IsSoundRun : Judged → Type 0
IsSoundRun w = judge.IsSoundRun (opening_of w.program) (meaning w.program) w.journal w.orders

-- All parts hold of all threads just where it is so, for a program of at least one thread.
abbrev pub SoundIsASoundRun : Type 0
SoundIsASoundRun = (w : Judged) → 0 < w.program.threads → AllHold (case_of w) ↔ IsSoundRun w
