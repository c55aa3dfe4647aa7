use Rattle.std.proofs.Common.{map, ◌∙◌}
use Rattle.upc_types.specs.View.{view}
use Rattle.upc_types.specs.ViewStructs.{view_structs}
use Rattle.typed_tree_opening.proofs.LaidTypes.{object_step}
use Rattle.typed_tree_opening.proofs.inside.push_objects.Goals as goal

pub loop-object-preserved : goal.loop-object-preserved
loop-object-preserved c =
    object_step (view_structs c.args.structs.now) c.args.objects.now c.loop-object.object-index c.object-item.result
    (map view c.push_laid.new.out.items) (map view c.loop-object.out.items) c.loop-object-test.true c.object-item.is
    c.in_ok-push_laid.ensures
    ∙ c.loop-object.invariant
