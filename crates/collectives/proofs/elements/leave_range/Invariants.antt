use Rattle.std.proofs.Common.{◌≡◌, drop, map}
use Rattle.std.specs.List.{list_any}
use Rattle.block_layout.specs.Shapes.{kind_size}
use Rattle.upc_values.specs.Views.{leaves_range}
use Rattle.upc_library.specs.layer.Spots.{pointer_of}
use Rattle.collectives.proofs.elements.leave_range.Given as goal

abbrev pub invariant-loop-element : goal.invariant-loop-element
invariant-loop-element l =
    list_any (leaves_range (kind_size l.kind)) (map pointer_of (drop l.element-index l.elements))
    ≡ list_any (leaves_range (kind_size l.kind)) (map pointer_of l.elements)
