use Rattle.std.proofs.Common.{◌≡◌, true, map, drop}
use Rattle.upc_values.specs.Lists.{Each}
use Rattle.upc_types.specs.View.{view}
use Rattle.upc_types.specs.ViewStructs.{view_structs}
use Rattle.typed_tree.specs.Elements.{element_shape}
use Rattle.typed_tree.specs.layer.Parts.{with_shapes}
use Rattle.typing_rules.specs.Rules.{has_size}
use Rattle.typed_tree_opening.specs.code.Apart.{AreNumbered}
use Rattle.typed_tree_opening.proofs.elements.number_types.Given as goal

abbrev pub invariant-loop-t : goal.invariant-loop-t
invariant-loop-t l = record {
  rest : with_shapes l.shapes.list.items (map (element_shape (view_structs l.structs)) (map view (drop l.t-index l.types)))
      ≡ with_shapes l.initial.shapes.list.items (map (element_shape (view_structs l.structs)) (map view l.types));
  layouts : Each (λ t. has_size (view_structs l.structs) t ≡ true) (map view (drop l.t-index l.types));
  numbered : AreNumbered (view_structs l.structs) l.shapes.list.items l.seen.items;
}
