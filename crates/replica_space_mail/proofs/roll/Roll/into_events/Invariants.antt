use Rattle.std.proofs.Common.{◌≡◌, ◌++◌}
use Rattle.std.specs.Vec.Iter.{into_iter_items}
use Rattle.upc_values.specs.layer.Chunks.{joined}
use Rattle.replica_space_mail.proofs.roll.Roll.into_events.Given as goal

-- what was moved, and what is left
abbrev pub invariant-loop-part : goal.invariant-loop-part
invariant-loop-part l = l.events.items ++ joined (into_iter_items l.part-iterator) l.self-inside.last.items ≡ l.fn.self.items
