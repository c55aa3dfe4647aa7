use Rattle.std.proofs.Common.{◌∙◌}
use Rattle.gen_expr.specs.layer.Sources.{running_of}
use Rattle.gen_expr.specs.layer.ViewSource.{view_source}
use Rattle.source_meaning.proofs.Rows.{object_step}
use Rattle.gen_stmt.proofs.shapes.push_shapes.Goals as goal

pub loop-object-preserved : goal.loop-object-preserved
loop-object-preserved c =
    object_step (running_of (view_source c.args.source)) c.args.objects.now c.loop-object.object-index
    c.object-item.result c.push_shape.new.shapes.items c.loop-object.shapes.items c.loop-object-test.true
    c.object-item.is c.in_ok-push_shape.ensures
    ∙ c.loop-object.invariant
