use Rattle.std.proofs.Common.{◌≡◌, take}
use Rattle.upc_verify_orders.specs.code.Tables.{points}
use Rattle.upc_verify_orders.proofs.table.points_of.Given as goal

abbrev pub invariant-loop-place : goal.invariant-loop-place
invariant-loop-place l = l.points.items ≡ points l.thread 0 (take l.place l.strict)
