use Rattle.std.proofs.Common.{◌≡◌, ◌↔◌}
use Rattle.upc_values.specs.Records.{actions_of}
use Rattle.upc_verify_parts.proofs.conforming.are_actions_of.Given as goal

-- the actions are those of the record exactly where those that are left are those of the items that are left
abbrev pub invariant-loop-item : goal.invariant-loop-item
invariant-loop-item l = (l.left ≡ actions_of l.item-iterator) ↔ (l.actions ≡ actions_of l.items)
