use Rattle.std.proofs.Common.{◌≡◌, ◌++◌, map, drop}
use Rattle.upc_types.specs.View.{view}
use Rattle.upc_types.specs.ViewStructs.{view_structs}
use Rattle.typed_tree.specs.LocalObjects.{with_layout}
use Rattle.typed_tree_opening.proofs.inside.push_types.Given as goal

abbrev pub invariant-loop-t : goal.invariant-loop-t
invariant-loop-t l =
    map view l.out.items ++ with_layout (view_structs l.structs) (map view (drop l.t-index l.types))
    ≡ map view l.initial.out.items ++ with_layout (view_structs l.structs) (map view l.types)
