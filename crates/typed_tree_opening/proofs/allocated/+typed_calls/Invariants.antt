use Rattle.std.proofs.Common.{◌≡◌, ◌++◌, map, drop}
use Rattle.upc_types.specs.View.{view}
use Rattle.upc_types.specs.ViewStructs.{view_structs}
use Rattle.typed_tree.specs.Tree.{exprs_of}
use Rattle.typed_tree.specs.ViewTree.{view_expr}
use Rattle.typed_tree.specs.Allocated.{allocated_exprs}
use Rattle.typed_tree_opening.proofs.allocated.+typed_calls.Given as goal

abbrev pub invariant-push_exprs-loop-part : goal.invariant-push_exprs-loop-part
invariant-push_exprs-loop-part l =
    map view l.out.items ++ allocated_exprs (view_structs l.structs)
    (exprs_of (map view_expr (drop l.part-index l.parts)))
    ≡ map view l.initial.out.items ++ allocated_exprs (view_structs l.structs) (exprs_of (map view_expr l.parts))
