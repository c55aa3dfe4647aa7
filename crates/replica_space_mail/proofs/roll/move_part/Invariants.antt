use Rattle.std.proofs.Common.{◌≡◌, ◌++◌}
use Rattle.std.specs.Vec.Iter.{into_iter_items}
use Rattle.replica_space_mail.proofs.roll.move_part.Given as goal

-- what was moved, and what is left
abbrev pub invariant-loop-event : goal.invariant-loop-event
invariant-loop-event l = l.events.items ++ into_iter_items l.event-iterator ≡ l.fn.events.items ++ l.fn.part.items
