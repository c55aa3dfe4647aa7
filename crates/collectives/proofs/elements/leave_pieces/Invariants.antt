use Rattle.std.proofs.Common.{◌≡◌, drop, take, map}
use Rattle.std.specs.List.{list_any, All}
use Rattle.block_layout.specs.Shapes.{kind_size}
use Rattle.upc_values.specs.Views.{leaves_piece}
use Rattle.upc_library.specs.layer.Spots.{pointer_of, IsRoomFor}
use Rattle.collectives.proofs.elements.leave_pieces.Given as goal

abbrev pub invariant-loop-element : goal.invariant-loop-element
invariant-loop-element l = record {
  value :
      list_any (leaves_piece l.thread.threads (kind_size l.kind)) (map pointer_of (drop l.element-index l.elements))
      ≡ list_any (leaves_piece l.thread.threads (kind_size l.kind)) (map pointer_of l.elements);
  inside : All (λ p. IsRoomFor 1 p.offset) (take l.element-index l.elements);
}
