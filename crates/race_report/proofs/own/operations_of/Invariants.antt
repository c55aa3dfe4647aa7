use Rattle.std.proofs.Common.{◌≡◌, ◌++◌, map}
use Rattle.upc_values.specs.Orders.{operations_from}
use Rattle.race_report.specs.code.Own.{own}
use Rattle.race_report.proofs.own.operations_of.Given as goal

-- the operations so far, and those of the items that are left
abbrev pub invariant-loop-item : goal.invariant-loop-item
invariant-loop-item l =
    l.list.items ++ map own (operations_from l.thread l.next l.item-iterator) ≡ map own (operations_from l.thread 0 l.items)
