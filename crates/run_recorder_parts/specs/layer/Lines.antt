-- Reading lines.
use Rattle.std.specs.Prelude.{ℕ, ◌==◌, Bool, true, false, List, [], ◌∷◌, Option, if◌then◌else◌, codes}
use Rattle.upc_values.specs.declared.journal.Strand.{Strand}
use Rattle.upc_values.specs.declared.order.Op.{Op}
use Rattle.run_recorder_text.specs.Words.{Text}
use Rattle.run_recorder_text.specs.Lines.{rule_line}
use Rattle.run_recorder_parts.specs.declared.strands.Header.{Header}
use Rattle.run_recorder_parts.specs.declared.limits.Limits.{Limits}
use Rattle.run_recorder_parts.specs.declared.head.Head.{Head}
use Rattle.run_recorder_parts.specs.declared.names.Name.{Name}
use Rattle.run_recorder_parts.specs.layer.Readers.{Reader, ◌>>=◌, give, field, many, each, tagged, constant, expect}
use Rattle.run_recorder_parts.specs.layer.Readers.{check, whole, begins}
use Rattle.run_recorder_parts.specs.layer.Values.{word32, word64, item_of, end_of}

-- The words of a thread's first line.
abbrev pub header_words_of : Reader Header
header_words_of = do
  _ ← expect (codes "thread")
  thread ← word32
  _ ← expect (codes "items")
  items ← word64
  _ ← expect (codes "ticks")
  ticks ← word64
  end ← end_of
  give (record { thread = thread; items = items; ticks = ticks; end = end })

-- A thread's first line.
abbrev pub header_of : Text → Option Header
header_of line = whole 32 header_words_of line

-- The lines of thread t.
abbrev pub strand_of : ℕ → Reader Strand
strand_of t = do
  header ← field header_of
  _ ← check (header.thread == t)
  items ← many 0 header.items (each item_of)
  give (record { items = items; ticks = header.ticks; end = header.end })

-- The parts of an entry's name.
abbrev pub name_parts_of : Reader Name
name_parts_of = do
  t ← word32
  i ← word32
  give (record { thread = t; index = i })

-- The name of an entry, from its line.
abbrev pub name_of : Text → Option Name
name_of line = whole 46 name_parts_of line

-- Whether an operation is a write.
abbrev pub access_of : Text → Option Bool
access_of t = if begins 119 t then constant (codes "w") true t else constant (codes "r") false t

-- The parts of an operation.
abbrev pub op_parts_of : Reader Op
op_parts_of = do
  t ← word32
  i ← word32
  write ← field access_of
  give (record { thread = t; index = i; write = write })

-- An operation, from its line.
abbrev pub op_of : Text → Option Op
op_of line = whole 46 op_parts_of line

-- The words of a section's first line.
abbrev pub count_words_of : Text → Reader ℕ
count_words_of name = do
  _ ← expect name
  n ← word64
  give n

-- A section: its name with a count, and so many lines.
abbrev pub section_of : {A : Type 0} → Text → (ℕ → Reader A) → Reader (List A)
section_of name line = do
  n ← field (whole 32 (count_words_of name))
  many 0 n line

-- The words of an order's first line.
abbrev pub order_words_of : Reader (ℕ × ℕ)
order_words_of = do
  _ ← expect (codes "order")
  t ← word32
  n ← word64
  give (t, n)

-- The order of thread t.
abbrev pub order_of : ℕ → Reader (List Op)
order_of t = do
  header ← field (whole 32 order_words_of)
  _ ← check (header.0 == t)
  many 0 header.1 (each op_of)

-- The words of the second line.
abbrev pub limits_words_of : Reader Limits
limits_words_of = do
  _ ← expect (codes "threads")
  threads ← word32
  _ ← expect (codes "budget")
  budget ← word64
  _ ← expect (codes "actions")
  actions ← word64
  give (record { threads = threads; budget = budget; actions = actions })

-- The second line.
abbrev pub limits_of : Text → Option Limits
limits_of line = whole 32 limits_words_of line

-- The head of version 1, after its first line.
abbrev pub old_head_of : Reader Head
old_head_of = do
  limits ← field limits_of
  give (record { version = 1; limits = limits })

-- The head of version 2, after its first line.
abbrev pub combining_head_of : Reader Head
combining_head_of = do
  limits ← field limits_of
  _ ← expect rule_line
  give (record { version = 2; limits = limits })

-- The heads by their first lines.
abbrev pub head_table : List (Text × Reader Head)
head_table = (codes "upc-record 1", old_head_of) ∷ (codes "upc-record 2", combining_head_of) ∷ []

-- The first lines.
abbrev pub head_of : Reader Head
head_of = tagged head_table
