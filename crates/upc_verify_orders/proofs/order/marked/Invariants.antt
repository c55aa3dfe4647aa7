use Rattle.std.proofs.Common.{take}
use Rattle.upc_verify_orders.specs.code.Found.{IsMarked}
use Rattle.upc_verify_orders.proofs.order.marked.Given as goal

abbrev pub invariant-loop-number : goal.invariant-loop-number
invariant-loop-number l = IsMarked l.many (take l.number-index l.at) l.marks.items
