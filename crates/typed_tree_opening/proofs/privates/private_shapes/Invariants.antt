use Rattle.std.proofs.Common.{◌≡◌, ◌++◌, true, map, drop}
use Rattle.upc_values.specs.Lists.{Each}
use Rattle.upc_types.specs.Types.{base_of}
use Rattle.upc_types.specs.Cells.{object_shape}
use Rattle.upc_types.specs.ViewStructs.{view_structs}
use Rattle.typing_rules.specs.Rules.{has_size}
use Rattle.typed_tree.specs.Objects.{private_in}
use Rattle.typed_tree.specs.ViewStatements.{view_object}
use Rattle.typed_tree_opening.proofs.privates.private_shapes.Given as goal

abbrev pub invariant-loop-object : goal.invariant-loop-object
invariant-loop-object l = record {
  rest : l.shapes.items ++ map (λ x. object_shape (view_structs l.structs) (base_of x.ctype))
      (private_in (map view_object (drop l.object-index l.objects)))
      ≡ map (λ x. object_shape (view_structs l.structs) (base_of x.ctype)) (private_in (map view_object l.objects));
  layouts : Each (λ x. has_size (view_structs l.structs) x.ctype ≡ true)
      (map view_object (drop l.object-index l.objects));
}
