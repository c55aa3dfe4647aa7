use Rattle.std.proofs.Common.{◌≡◌, drop, map}
use Rattle.collectives.specs.code.Parts.{part_of}
use Rattle.collectives.specs.layer.Left.{parts_copied}
use Rattle.collectives.proofs.copies.first.Given as goal

abbrev pub invariant-loop-at : goal.invariant-loop-at
invariant-loop-at l =
    parts_copied l.thread.shapes.now l.bytes (map part_of (drop l.at l.parts.items))
    ≡ parts_copied l.thread.shapes.now l.bytes (map part_of (drop l.from l.parts.items))
