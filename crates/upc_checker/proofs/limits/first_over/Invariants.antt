use Rattle.std.proofs.Common.{◌≡◌, map, drop}
use Rattle.upc_types.specs.ViewStructs.{view_structs}
use Rattle.typed_tree.specs.ViewStatements.{view_object}
use Rattle.upc_checker.specs.Limits as pure
use Rattle.upc_checker.specs.code.ViewUnits.{view_sort}
use Rattle.upc_checker.proofs.limits.first_over.Given as goal

-- what is left decides
abbrev pub invariant-loop-object : goal.invariant-loop-object
invariant-loop-object l =
    let over = pure.first_over (view_structs l.structs) (view_sort l.sort) in
    over l.most (map view_object l.objects) ≡ over l.room (map view_object (drop l.object-index l.objects))
