use Rattle.std.proofs.Common.{◌≡◌, ◌++◌, map, drop}
use Rattle.upc_types.specs.View.{view}
use Rattle.upc_types.specs.ViewStructs.{view_structs}
use Rattle.typed_tree.specs.ViewStatements.{view_object}
use Rattle.typed_tree_opening.specs.code.LaidObjects.{laid_objects}
use Rattle.typed_tree_opening.proofs.inside.push_objects.Given as goal

abbrev pub invariant-loop-object : goal.invariant-loop-object
invariant-loop-object l =
    map view l.out.items ++ laid_objects (view_structs l.structs) (map view_object (drop l.object-index l.objects))
    ≡ map view l.initial.out.items ++ laid_objects (view_structs l.structs) (map view_object l.objects)
