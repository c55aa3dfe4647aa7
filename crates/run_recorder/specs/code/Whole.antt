-- Reading a whole text.
use Rattle.std.specs.Prelude.{ℕ, List, [], Option, codes}
use Rattle.upc_values.specs.declared.journal.Entry.{Entry}
use Rattle.upc_values.specs.declared.journal.Strand.{Strand}
use Rattle.upc_values.specs.declared.journal.Journal.{Journal}
use Rattle.upc_values.specs.declared.order.Op.{Op}
use Rattle.upc_values.specs.declared.order.Orders.{Orders}
use Rattle.run_recorder_text.specs.Words.{Text}
use Rattle.run_recorder_text.specs.Short.{is_short}
use Rattle.run_recorder_parts.specs.declared.head.Head.{Head}
use Rattle.run_recorder_parts.specs.declared.limits.Limits.{Limits}
use Rattle.run_recorder_parts.specs.layer.Readers.{Reader, ◌>>=◌, many, each, expect, lift, guarded, whole}
use Rattle.run_recorder_parts.specs.layer.Lines.{head_of, strand_of, section_of, name_of, op_of, order_of}
use Rattle.run_recorder.specs.code.Finding.{entries_of}

-- The journal of these numbers, strands and entries.
abbrev pub journal_of : Limits → List Strand → List Entry → Journal
journal_of limits strands history =
    record {
      threads = limits.threads;
      budget = limits.budget;
      actions = limits.actions;
      strands = strands;
      history = history;
    }

-- A run with its orders, and before them the version of its text.
abbrev pub VersionedRun : Type 0
VersionedRun = ℕ × Journal × Orders

-- The version and the run, where it is short.
abbrev pub short_run_of : Head → List Strand → List Entry → List Op → List (List Op) → Option VersionedRun
short_run_of head strands history strict threads =
    let journal = journal_of head.limits strands history in
    guarded (is_short journal) (head.version, journal, record { strict = strict; threads = threads })

-- The lines of a run, and the empty text after the last line end.
abbrev pub run_of_lines : Reader VersionedRun
run_of_lines = do
  head ← head_of
  strands ← many 0 head.limits.threads strand_of
  names ← section_of (codes "history") (each name_of)
  strict ← section_of (codes "strict") (each op_of)
  threads ← many 0 head.limits.threads order_of
  _ ← expect (codes "end")
  _ ← expect []
  history ← lift (entries_of strands names)
  lift (short_run_of head strands history strict threads)

-- The run with this text, and the text's version.
abbrev pub run_of : Text → Option VersionedRun
run_of bytes = whole 10 run_of_lines bytes
