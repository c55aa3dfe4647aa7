use Rattle.std.proofs.Common.{◌∙◌}
use Rattle.upc_types.specs.ViewStructs.{view_structs}
use Rattle.source_meaning.proofs.Rows.{type_step}
use Rattle.gen_stmt.proofs.shapes.push_type_shapes.Goals as goal

pub loop-t-preserved : goal.loop-t-preserved
loop-t-preserved c =
    type_step (view_structs c.args.structs.now) c.args.types.now c.loop-t.t-index c.t-item.result
    c.push_shape.new.shapes.items c.loop-t.shapes.items c.loop-t-test.true c.t-item.is c.in_ok-push_shape.ensures
    ∙ c.loop-t.invariant
