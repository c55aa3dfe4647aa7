use Rattle.std.proofs.Common.{◌≡◌, ◌+◌, drop}
use Rattle.upc_values.specs.Openings.{bytes_of}
use Rattle.shared_heap.proofs.heap.count_bytes.Given as goal

abbrev pub invariant-loop-object : goal.invariant-loop-object
invariant-loop-object l = l.bytes + bytes_of (drop l.object-index l.objects) ≡ bytes_of l.objects
