use Rattle.std.proofs.Common.{◌≡◌, ◌↔◌}
use Rattle.upc_values.specs.Drain.{entries_of}
use Rattle.upc_verify_history.proofs.entries.are_entries_of.Given as goal

-- the thread's entries are these exactly where those that are left are
abbrev pub invariant-loop-entry : goal.invariant-loop-entry
invariant-loop-entry l = (entries_of l.thread l.entry-iterator ≡ l.left) ↔ (entries_of l.thread l.history ≡ l.entries)
