use Rattle.std.proofs.Common.{◌≡◌, drop, map}
use Rattle.std.specs.List.{list_any}
use Rattle.upc_values.specs.Expansions.{differ}
use Rattle.collectives.specs.code.Parts.{part_of}
use Rattle.collectives.proofs.part.any_differs.Given as goal

abbrev pub invariant-loop-part : goal.invariant-loop-part
invariant-loop-part l =
    list_any (differ l.thread.threads l.thread.shapes.now l.thread.number l.bytes) (map part_of (drop l.part-index l.parts))
    ≡ list_any (differ l.thread.threads l.thread.shapes.now l.thread.number l.bytes) (map part_of l.parts)
