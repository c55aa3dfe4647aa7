use Rattle.std.proofs.Common.{◌≡◌, ◌≤◌, [], take, length}
use Rattle.upc_values.specs.layer.Chunks.{joined}
use Rattle.replica_space.specs.Runs.{next_index}
use Rattle.replica_space_mail.proofs.roll.count_parts.Given as goal

abbrev pub invariant-loop-part : goal.invariant-loop-part
invariant-loop-part l =
    (l.count ≡ next_index l.fn.thread (joined (take l.part-index l.fn.parts) []))
    × (l.count ≤ length (joined (take l.part-index l.fn.parts) []))
