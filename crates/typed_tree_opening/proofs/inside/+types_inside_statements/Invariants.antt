use Rattle.std.proofs.Common.{◌≡◌, ◌++◌, map, drop}
use Rattle.upc_types.specs.View.{view}
use Rattle.upc_types.specs.ViewStructs.{view_structs}
use Rattle.typed_tree.specs.ViewStatements.{view_arms, view_items, view_switch_items}
use Rattle.typed_tree.specs.LocalObjects.{arms_objects, items_objects, switch_objects}
use Rattle.typed_tree_opening.specs.code.LaidObjects.{laid_objects}
use Rattle.typed_tree_opening.proofs.inside.+types_inside_statements.Given as goal

abbrev pub invariant-push_arms-loop-arm : goal.invariant-push_arms-loop-arm
invariant-push_arms-loop-arm l =
    map view l.out.items ++ laid_objects (view_structs l.structs) (arms_objects (view_arms (drop l.arm-index l.arms)))
    ≡ map view l.initial.out.items ++ laid_objects (view_structs l.structs) (arms_objects (view_arms l.arms))

abbrev pub invariant-push_items-loop-item : goal.invariant-push_items-loop-item
invariant-push_items-loop-item l =
    map view l.out.items ++ laid_objects (view_structs l.structs)
    (items_objects (view_items (drop l.item-index l.items)))
    ≡ map view l.initial.out.items ++ laid_objects (view_structs l.structs) (items_objects (view_items l.items))

abbrev pub invariant-push_switch-loop-item : goal.invariant-push_switch-loop-item
invariant-push_switch-loop-item l =
    map view l.out.items
    ++ laid_objects (view_structs l.structs) (switch_objects (view_switch_items (drop l.item-index l.items)))
    ≡ map view l.initial.out.items ++ laid_objects (view_structs l.structs) (switch_objects (view_switch_items l.items))
