use Rattle.std.proofs.Common.{◌≡◌, take}
use Rattle.upc_values.specs.LibraryCalls.{scalars}
use Rattle.thread_values.proofs.meetings.scalars.Given as goal

abbrev pub invariant-loop-v : goal.invariant-loop-v
invariant-loop-v l = l.found.items ≡ scalars (take l.v-index l.values)
