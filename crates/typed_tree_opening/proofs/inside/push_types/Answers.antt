use Rattle.std.proofs.Common.{map, ◌∙◌}
use Rattle.upc_types.specs.View.{view}
use Rattle.upc_types.specs.ViewStructs.{view_structs}
use Rattle.typed_tree_opening.proofs.LaidTypes.{type_step}
use Rattle.typed_tree_opening.proofs.inside.push_types.Goals as goal

pub loop-t-preserved : goal.loop-t-preserved
loop-t-preserved c =
    type_step (view_structs c.args.structs.now) c.args.types.now c.loop-t.t-index c.t-item.result
    (map view c.push_laid.new.out.items) (map view c.loop-t.out.items) c.loop-t-test.true c.t-item.is
    c.in_ok-push_laid.ensures
    ∙ c.loop-t.invariant
