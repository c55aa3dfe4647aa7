use Rattle.std.proofs.Common.{◌≡◌, ◌+◌, ◌≤◌, ◌++◌, true, List, map, drop}
use Rattle.block_layout.specs.declared.kind.Shape.{Shape}
use Rattle.upc_values.specs.Lists.{Each}
use Rattle.upc_types.specs.ViewStructs.{view_structs}
use Rattle.typing_rules.specs.Rules.{has_size}
use Rattle.typed_tree.specs.Elements.{element_shape}
use Rattle.typed_tree.specs.layer.Parts.{with_shapes}
use Rattle.typed_tree.specs.Objects.{shared_in, type_of, bytes_in, placed_from}
use Rattle.typed_tree.specs.ViewStatements.{view_object}
use Rattle.typed_tree_opening.proofs.objects.placed_objects.Given as goal

abbrev pub invariant-loop-object : goal.invariant-loop-object
invariant-loop-object l = record {
  shapes : with_shapes l.shapes.list.items
      (map (element_shape (view_structs l.structs))
      (map type_of (shared_in (map view_object (drop l.object-index l.objects)))))
      ≡ with_shapes l.initial.shapes.list.items
      (map (element_shape (view_structs l.structs)) (map type_of (shared_in (map view_object l.objects))));
  rest : (more : List Shape) → l.shared.items ++ placed_from (view_structs l.structs)
      (with_shapes (with_shapes l.initial.shapes.list.items (map (element_shape (view_structs l.structs))
      (map type_of (shared_in (map view_object l.objects))))) more) l.number l.base
      (shared_in (map view_object (drop l.object-index l.objects)))
      ≡ placed_from (view_structs l.structs)
      (with_shapes (with_shapes l.initial.shapes.list.items (map (element_shape (view_structs l.structs))
      (map type_of (shared_in (map view_object l.objects))))) more) 1 0 (shared_in (map view_object l.objects));
  layouts : Each (λ x. has_size (view_structs l.structs) x.ctype ≡ true)
      (map view_object (drop l.object-index l.objects));
  bytes : l.base + bytes_in (view_structs l.structs)
      (shared_in (map view_object (drop l.object-index l.objects))) ≤ 16777216;
}
