use Rattle.std.proofs.Common.{◌≡◌, map, take}
use Rattle.thread_steps.specs.Values.{number_of}
use Rattle.thread_values.proofs.calls.numbers_of.Given as goal

abbrev pub invariant-loop-v : goal.invariant-loop-v
invariant-loop-v l = l.numbers.items ≡ map number_of (take l.v-index l.values)
