use Rattle.std.proofs.Common.{◌≡◌, ◌++◌}
use Rattle.upc_values.specs.Records.{replies_of}
use Rattle.upc_verify_parts.proofs.record.replies_of.Given as goal

-- the replies so far, and those of the items that are left
abbrev pub invariant-loop-item : goal.invariant-loop-item
invariant-loop-item l = l.replies.items ++ replies_of l.item-iterator ≡ replies_of l.items
