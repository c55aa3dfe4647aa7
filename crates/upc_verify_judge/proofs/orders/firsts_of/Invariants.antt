use Rattle.std.proofs.Common.{◌≡◌, take}
use Rattle.upc_values.specs.Consistent.{begins}
use Rattle.upc_verify_orders.specs.layer.Numbers.{firsts_in}
use Rattle.upc_verify_judge.proofs.orders.firsts_of.Given as goal

-- what the places of those so far begin with
abbrev pub invariant-loop-operation : goal.invariant-loop-operation
invariant-loop-operation l = l.firsts.items ≡ firsts_in (begins l.world.0 l.world.1) (take l.operation-index l.operations)
