use Rattle.std.proofs.Common.{◌≡◌, ◌++◌, map, drop}
use Rattle.upc_types.specs.View.{view}
use Rattle.upc_types.specs.ViewStructs.{view_structs}
use Rattle.source_meaning.specs.Types.{shape_of}
use Rattle.gen_stmt.proofs.shapes.push_type_shapes.Given as goal

abbrev pub invariant-loop-t : goal.invariant-loop-t
invariant-loop-t l =
    l.shapes.items ++ map (shape_of (view_structs l.structs)) (map view (drop l.t-index l.types))
    ≡ l.initial.shapes.items ++ map (shape_of (view_structs l.structs)) (map view l.types)
