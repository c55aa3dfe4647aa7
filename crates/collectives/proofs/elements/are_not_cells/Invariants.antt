use Rattle.std.proofs.Common.{◌≡◌, not, drop, map}
use Rattle.std.specs.List.{list_any}
use Rattle.upc_values.specs.Views.{is_cell}
use Rattle.upc_library.specs.layer.Spots.{pointer_of}
use Rattle.collectives.proofs.elements.are_not_cells.Given as goal

abbrev pub invariant-loop-element : goal.invariant-loop-element
invariant-loop-element l =
    list_any (λ p. not (is_cell l.thread.shapes.now l.kind p)) (map pointer_of (drop l.element-index l.elements))
    ≡ list_any (λ p. not (is_cell l.thread.shapes.now l.kind p)) (map pointer_of l.elements)
