use Rattle.std.proofs.Common.{◌≡◌, ◌++◌}
use Rattle.std.specs.Vec.Iter.{into_iter_items}
use Rattle.upc_values.proofs.chunked.Chunked.from_vec.Given as goal

-- what was moved, and what is left
abbrev pub invariant-loop-member : goal.invariant-loop-member
invariant-loop-member g l = l.chunks.items ++ into_iter_items l.member-iterator ≡ l.fn.members.items
