use Rattle.std.proofs.Common.{◌≡◌, ◌++◌, map, drop}
use Rattle.replica_space_rows.proofs.row.Row.into_order.Given as goal

abbrev pub invariant-loop-slotted : goal.invariant-loop-slotted
invariant-loop-slotted l = l.names.items ++ map (λ m. m.member.name) (drop l.slotted-index l.slotted-items) ≡ map (λ m. m.member.name) l.slotted-items
