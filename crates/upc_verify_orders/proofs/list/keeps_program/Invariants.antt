use Rattle.std.proofs.Common.{◌≡◌, ◌↔◌, length, drop}
use Rattle.upc_values.specs.Lists.{Pairwise}
use Rattle.upc_verify_orders.specs.code.Tables.{InThread}
use Rattle.upc_verify_orders.proofs.Lists.{Keeps}
use Rattle.upc_verify_orders.proofs.list.keeps_program.Given as goal

abbrev pub invariant-loop-name : goal.invariant-loop-name
invariant-loop-name l = record {
  many : length l.behind.items ≡ l.threads;
  keeps : Keeps l.behind.items (drop l.name-index l.strict) ↔ Pairwise InThread l.strict;
}
