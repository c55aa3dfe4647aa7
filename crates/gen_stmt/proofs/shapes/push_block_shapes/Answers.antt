use Rattle.std.proofs.Common.{◌∙◌}
use Rattle.gen_expr.specs.layer.Sources.{running_of}
use Rattle.gen_expr.specs.layer.ViewSource.{view_source}
use Rattle.source_meaning.proofs.Rows.{item_step}
use Rattle.gen_stmt.proofs.shapes.push_block_shapes.Goals as goal

pub loop-item-preserved : goal.loop-item-preserved
loop-item-preserved c =
    item_step (running_of (view_source c.args.source)) c.args.items.now c.loop-item.item-index c.item-item.result
    c.push_item_shapes.new.shapes.items c.loop-item.shapes.items c.loop-item-test.true c.item-item.is
    c.in_ok-push_item_shapes.ensures
    ∙ c.loop-item.invariant
