use Rattle.std.proofs.Common.{◌≡◌, ◌≤◌, ◌+◌, ◌++◌, length}
use Rattle.upc_values.specs.Orders.{operations_from}
use Rattle.upc_verify_orders.proofs.accesses.push_items.Given as goal

abbrev pub invariant-loop-item : goal.invariant-loop-item
invariant-loop-item l = record {
  rest : l.list.items ++ operations_from l.thread l.next l.item-iterator ≡ l.initial.list.items ++ operations_from l.thread 0 l.items;
  next : l.next + length l.item-iterator ≤ length l.items;
}
