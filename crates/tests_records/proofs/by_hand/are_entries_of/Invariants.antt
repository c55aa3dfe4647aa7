use Rattle.std.proofs.Common.{◌≡◌, ◌≤◌, ◌++◌, take, length}
use Rattle.upc_values.specs.Drain as drains
use Rattle.tests_records.proofs.by_hand.are_entries_of.Given as goal

-- the first of the list are the thread's so far, and those that are left come after them
abbrev pub invariant-loop-entry : goal.invariant-loop-entry
invariant-loop-entry l = record {
  most : l.next ≤ length l.entries;
  so_far : take l.next l.entries ++ drains.entries_of l.thread l.entry-iterator ≡ drains.entries_of l.thread l.history;
}
