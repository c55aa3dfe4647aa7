use Rattle.std.proofs.Common.{◌≡◌, map, drop}
use Rattle.upc_types.specs.ViewStructs.{view_structs}
use Rattle.typed_tree.specs.Objects.{type_of}
use Rattle.typed_tree.specs.Targets.{with_targets}
use Rattle.typed_tree.specs.ViewStatements.{view_object}
use Rattle.typed_tree_opening.specs.code.Pending.{IsDone}
use Rattle.typed_tree_opening.proofs.targets.note_objects.Given as goal

abbrev pub invariant-loop-object : goal.invariant-loop-object
invariant-loop-object l = record {
  rest : with_targets (view_structs l.structs) (map type_of (map view_object (drop l.object-index l.objects)))
      ≡ with_targets (view_structs l.initial.structs) (map type_of (map view_object l.objects));
  done : IsDone (view_structs l.structs) l.done;
}
