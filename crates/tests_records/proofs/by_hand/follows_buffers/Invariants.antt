use Rattle.std.proofs.Common.{◌≡◌, ℕ, ◌<◌, true, get_or}
use Rattle.upc_values.specs.declared.journal.Strand.{Strand}
use Rattle.upc_values.specs.Drain as drains
use Rattle.tests_records.proofs.by_hand.follows_buffers.Given as goal

-- so it is of the threads so far
abbrev pub invariant-loop-thread : goal.invariant-loop-thread
invariant-loop-thread l = record {
  agrees : (t : ℕ) (d : Strand) → t < l.thread → (drains.walked t (get_or l.strands t d).items).agrees ≡ true;
  drains : (t : ℕ) (d : Strand) → t < l.thread → drains.entries_of t l.history ≡ drains.drain t (get_or l.strands t d).items;
}
