use Rattle.std.proofs.Common.{◌≡◌, ℕ, nat_lt, cond, length}
use Rattle.upc_values.specs.Operations.{access}
use Rattle.replica_space_rows.specs.layer.Rows.{with_access}
use Rattle.replica_space_walk.specs.code.Walking.{row_of}
use Rattle.replica_space_walk.proofs.rows.push_all.Given as goal

abbrev pub invariant-loop-thread : goal.invariant-loop-thread
invariant-loop-thread l = record {
  many : length l.rows ≡ length l.initial.rows;
  lists : (t : ℕ) → row_of t l.rows
      ≡ cond (nat_lt t l.thread) (with_access l.stamp l.index (access l.action l.reply) (row_of t l.initial.rows)) (row_of t l.initial.rows);
}
