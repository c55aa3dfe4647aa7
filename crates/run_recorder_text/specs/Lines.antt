-- The lines of a run's text, and the text, in each of its two versions.
use Rattle.std.specs.Prelude.{ℕ, ◌+◌, ◌==◌, List, [], ◌∷◌, ◌++◌, length, map, Bool, true, false, codes, decimal}
use Rattle.std.specs.Prelude.{if◌then◌else◌}
use Rattle.std.specs.List.{flat_map}
use Rattle.upc_values.specs.declared.record.Item.{Item}
use Rattle.upc_values.specs.declared.record.End.{End}
use Rattle.upc_values.specs.declared.journal.Entry.{Entry}
use Rattle.upc_values.specs.declared.journal.Strand.{Strand}
use Rattle.upc_values.specs.declared.journal.Journal.{Journal}
use Rattle.upc_values.specs.declared.order.Op.{Op}
use Rattle.upc_values.specs.declared.order.Orders.{Orders}
use Rattle.run_recorder_text.specs.Words.{Text, with_blanks, with_dots, item_words, end_words}

-- The second line has the numbers of the run: its threads, its budget and its actions.
abbrev pub limits_line : ℕ → ℕ → ℕ → Text
limits_line threads budget actions =
    with_blanks (codes "threads" ∷ decimal threads ∷ codes "budget" ∷ decimal budget
    ∷ codes "actions" ∷ decimal actions ∷ [])

-- The line of the rule: at most 64 relaxed writes of a thread are pending, and one to a location that is pending is
-- combined with the pending one.
abbrev pub rule_line : Text
rule_line = codes "rule places 64 combine"

-- The first lines of a text: its version and the numbers of its run, and in version 2 the rule.
abbrev pub head_lines : ℕ → ℕ → ℕ → ℕ → List Text
head_lines version threads budget actions =
    if version == 1 then codes "upc-record 1" ∷ limits_line threads budget actions ∷ []
    else codes "upc-record 2" ∷ limits_line threads budget actions ∷ rule_line ∷ []

-- The first line of a thread has its number, its count of items, its ticks and its end.
abbrev pub thread_line : ℕ → ℕ → ℕ → End → Text
thread_line t items ticks end =
    with_blanks (codes "thread" ∷ decimal t ∷ codes "items" ∷ decimal items
    ∷ codes "ticks" ∷ decimal ticks ∷ end_words end)

-- An item is a line.
abbrev pub item_line : Item → Text
item_line i = with_blanks (item_words i)

-- The lines of thread t: its first line, and one for each item.
abbrev pub strand_lines : ℕ → Strand → List Text
strand_lines t s = thread_line t (length s.items) s.ticks s.end ∷ map item_line s.items

-- An entry of the history is named by its thread and its number there.
abbrev pub entry_line : Entry → Text
entry_line e = with_dots (decimal e.thread ∷ decimal e.index ∷ [])

-- An operation is a write or a read.
abbrev pub access_text : Bool → Text
access_text true = codes "w"
access_text false = codes "r"

-- An operation is named by its action, and by which of the two it is.
abbrev pub op_line : Op → Text
op_line o = with_dots (decimal o.thread ∷ decimal o.index ∷ access_text o.write ∷ [])

-- A section is its name with a count, and so many lines.
abbrev pub section_lines : {A : Type 0} → Text → (A → Text) → List A → List Text
section_lines name line xs = with_blanks (name ∷ decimal (length xs) ∷ []) ∷ map line xs

-- The order of thread t is its number with a count, and so many lines.
abbrev pub order_lines : ℕ → List Op → List Text
order_lines t ops = with_blanks (codes "order" ∷ decimal t ∷ decimal (length ops) ∷ []) ∷ map op_line ops

-- The lines of each, by its number from i on.
abbrev pub numbered_lines : {A : Type 0} → (ℕ → A → List Text) → ℕ → List A → List Text
numbered_lines lines i [] = []
numbered_lines lines i (x ∷ xs) = lines i x ++ numbered_lines lines (i + 1) xs

-- The other lines of a run: its threads, its history, its strict order, its threads' orders, and `end`.
abbrev pub body_lines : Journal → Orders → List Text
body_lines j o =
    numbered_lines strand_lines 0 j.strands
    ++ (section_lines (codes "history") entry_line j.history
    ++ (section_lines (codes "strict") op_line o.strict
    ++ (numbered_lines order_lines 0 o.threads
    ++ codes "end" ∷ [])))

-- The lines of a run in this version: the first ones, and the others.
abbrev pub run_lines : ℕ → Journal → Orders → List Text
run_lines version j o = head_lines version j.threads j.budget j.actions ++ body_lines j o

-- The text of a run in this version is its lines, each with a line end.
abbrev pub version_text : ℕ → Journal → Orders → Text
version_text version j o = flat_map (λ line. line ++ codes "\n") (run_lines version j o)

-- The text of a run is that of version 2.
abbrev pub text : Journal → Orders → Text
text j o = version_text 2 j o

-- The old text of a run is that of version 1, in which runs stand from before writes were combined.
abbrev pub old_text : Journal → Orders → Text
old_text j o = version_text 1 j o
