-- The orders of a journal's operations: each entry of the history stands for its own operations, for those of the
-- writes combined into it, and for the reads that one of these has answered.
use Rattle.std.specs.Prelude.{ℕ, ◌≡◌, ◌+◌, ◌*◌, ◌<◌, ◌==◌, Bool, true, ◌||◌, cond, List, [], ◌∷◌}
use Rattle.std.specs.Prelude.{◌++◌, filter, slice_index_or}
use Rattle.std.specs.List.{flat_map}
use Rattle.upc_values.specs.declared.record.Item.{Item}
use Rattle.upc_values.specs.declared.record.Item.TheVariants.{Did, Stall}
use Rattle.upc_values.specs.declared.record.End.TheVariants.{Halted}
use Rattle.upc_values.specs.declared.journal.Entry.{Entry}
use Rattle.upc_values.specs.declared.journal.Strand.{Strand}
use Rattle.upc_values.specs.declared.journal.Journal.{Journal}
use Rattle.upc_values.specs.declared.order.Op.{Op}
use Rattle.upc_values.specs.Lists.{Has, Precedes}
use Rattle.upc_values.specs.Drain.{Commit, commits, entry_of}
use Rattle.upc_values.specs.Operations.{Operation, accesses}

-- The strand that stands for one that is missing: it has done nothing.
abbrev pub no_strand : Strand
no_strand = record { items = []; ticks = 0; «end» = Halted }

-- The record of a thread in a journal.
abbrev pub record_of : Journal → ℕ → List Item
record_of j t = (slice_index_or j.strands t no_strand).items

-- The operations that stand in the place of the entry with this number.
abbrev pub operations_at : ℕ → List Commit → List Operation
operations_at n [] = []
operations_at n (c ∷ cs) = cond (c.entry.index == n) c.operations (operations_at n cs)

-- The operations that stand in an entry's place.
abbrev pub placed : Journal → Entry → List Operation
placed j e = operations_at e.index (commits e.thread (record_of j e.thread))

-- The history with each entry replaced by its operations.
abbrev pub global_order : Journal → List Operation
global_order j = flat_map (placed j) j.history

-- The strict operations in the order of the history.
abbrev pub strict_list : Journal → List Operation
strict_list j = filter (λ o. o.strict) (global_order j)

-- An operation stands in thread t's order: its own ones, all writes, and all strict reads.
abbrev pub is_shown : ℕ → Operation → Bool
is_shown t o = (o.thread == t) || (o.write || o.strict)

-- The order of a thread: its own operations, all writes and all strict reads, in the order of the history.
abbrev pub thread_order : Journal → ℕ → List Operation
thread_order j t = filter (is_shown t) (global_order j)

-- The operations of a thread's items in program order, from action n on.
abbrev pub operations_from : ℕ → ℕ → List Item → List Operation
operations_from t n [] = []
operations_from t n (Stall ∷ items) = operations_from t n items
operations_from t n (Did a r ∷ items) = accesses (entry_of t n a r) ++ operations_from t (n + 1) items

-- The operations of a thread, in program order.
abbrev pub operations_of : Journal → ℕ → List Operation
operations_of j t = operations_from t 0 (record_of j t)

-- An operation of the journal, which is one of some thread's items.
abbrev pub IsOf : Journal → Operation → Type 0
IsOf j o = (o.thread < j.threads) × Has (operations_of j o.thread) o

-- The name of an operation.
abbrev pub name_of : Operation → Op
name_of o = record { thread = o.thread; index = o.index; write = o.write }

-- The place of an operation in program order: by action number, and in a fence the write first.
abbrev pub rank : Operation → ℕ
rank o = 2 * o.index + cond o.write 0 1

-- The strict order: strict operations as in the history, operations of one thread, one of them strict, by program
-- order, and what follows by transitivity (UPC Appendix B).
pub data StrictOrder (j : Journal) : Operation → Operation → Type 0 where
  As_placed :
      (a b : Operation) → a.strict ≡ true → b.strict ≡ true → Precedes (global_order j) a b → StrictOrder j a b
  As_written :
      (a b : Operation) → IsOf j a → IsOf j b → a.thread ≡ b.thread → (a.strict || b.strict) ≡ true → rank a < rank b
      → StrictOrder j a b
  Through : (a b c : Operation) → StrictOrder j a b → StrictOrder j b c → StrictOrder j a c
