use Rattle.std.proofs.Common.{◌≡◌, ◌++◌, map, drop}
use Rattle.upc_types.specs.View.{view}
use Rattle.upc_types.specs.ViewStructs.{view_structs}
use Rattle.typed_tree.specs.ViewStatements.{view_function}
use Rattle.typed_tree.specs.Allocated.{allocated_in}
use Rattle.typed_tree_opening.proofs.allocated.allocated_types.Given as goal

abbrev pub invariant-loop-function : goal.invariant-loop-function
invariant-loop-function l =
    map view l.out.items ++ allocated_in (view_structs l.structs)
    (map view_function (drop l.function-index l.functions))
    ≡ allocated_in (view_structs l.structs) (map view_function l.functions)
