use Rattle.std.proofs.Common.{◌≡◌, ◌*◌, map}
use Rattle.std.specs.List.{range_with_len}
use Rattle.upc_values.specs.Calls.{Gather}
use Rattle.upc_values.specs.Expansions.{goes}
use Rattle.collectives.specs.code.Parts.{part_of}
use Rattle.collectives.proofs.ways.gather.Given as goal

abbrev pub invariant-loop-i : goal.invariant-loop-i
invariant-loop-i l =
    map part_of l.parts.items
    ≡ map (λ i. goes l.thread.threads l.thread.shapes.now l.thread.number Gather l.ends.dst.now l.ends.src.now l.ends.bytes (i * l.ends.bytes) (i * l.ends.bytes)) (range_with_len 0 l.i)
