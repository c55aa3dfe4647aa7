use Rattle.std.proofs.Common.{◌≡◌, map, take}
use Rattle.upc_verify_orders.specs.code.Found.{taken}
use Rattle.upc_verify_orders.specs.layer.Numbers.{number_in}
use Rattle.upc_verify_orders.specs.code.Values.{access_by}
use Rattle.upc_verify_orders.proofs.reads.accesses_at.Given as goal

abbrev pub invariant-loop-number : goal.invariant-loop-number
invariant-loop-number l =
    l.list.items ≡ map (access_by (number_in l.operations)) (taken l.operations (take l.number-index l.at))
