use Rattle.std.proofs.Common.{◌≡◌, ◌<◌, ℕ, length}
use Rattle.upc_values.specs.Records.{replies_of}
use Rattle.upc_values.specs.Orders.{record_of}
use Rattle.typed_tree.specs.ViewProgram.{view_program}
use Rattle.upc_verify_judge.specs.layer.Meanings.{outcome_in}
use Rattle.upc_verify.specs.Verdicts.{meaning}
use Rattle.upc_verify.proofs.meant.all_meant.Given as goal

-- what the sources of the threads so far come to
abbrev pub invariant-loop-thread : goal.invariant-loop-thread
invariant-loop-thread l = record {
  many : length l.list.items ≡ l.thread;
  each : (t : ℕ) → t < l.thread
      → outcome_in l.list.items t ≡ meaning (view_program l.program) l.journal.budget t (replies_of (record_of l.journal t));
}
