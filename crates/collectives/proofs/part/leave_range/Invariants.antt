use Rattle.std.proofs.Common.{◌≡◌, ◌||◌, drop, map}
use Rattle.std.specs.List.{list_any}
use Rattle.upc_values.specs.Views.{leaves_range}
use Rattle.collectives.specs.code.Parts.{part_of}
use Rattle.collectives.proofs.part.leave_range.Given as goal

abbrev pub invariant-loop-part : goal.invariant-loop-part
invariant-loop-part l =
    list_any (λ x. leaves_range l.bytes x.into || leaves_range l.bytes x.from) (map part_of (drop l.part-index l.parts))
    ≡ list_any (λ x. leaves_range l.bytes x.into || leaves_range l.bytes x.from) (map part_of l.parts)
