use Rattle.std.proofs.Common.{take}
use Rattle.upc_verify_orders.specs.code.Found.{AreFound}
use Rattle.upc_verify_orders.proofs.find.find_all.Given as goal

abbrev pub invariant-loop-name : goal.invariant-loop-name
invariant-loop-name l = AreFound l.operations (take l.name-index l.names) l.at.items
