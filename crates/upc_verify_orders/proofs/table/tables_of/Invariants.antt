use Rattle.std.proofs.Common.{◌≡◌}
use Rattle.upc_verify_orders.specs.code.Tables.{tables}
use Rattle.upc_verify_orders.proofs.table.tables_of.Given as goal

abbrev pub invariant-loop-thread : goal.invariant-loop-thread
invariant-loop-thread l = l.tables.items ≡ tables l.thread l.strict
