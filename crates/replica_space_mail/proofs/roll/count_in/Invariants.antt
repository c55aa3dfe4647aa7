use Rattle.std.proofs.Common.{◌≡◌, ◌≤◌, take}
use Rattle.replica_space.specs.Runs.{next_index}
use Rattle.replica_space_mail.proofs.roll.count_in.Given as goal

abbrev pub invariant-loop-event : goal.invariant-loop-event
invariant-loop-event l = (l.count ≡ next_index l.fn.thread (take l.event-index l.fn.part)) × (l.count ≤ l.event-index)
