use Rattle.std.proofs.Common.{◌∙◌}
use Rattle.gen_expr.specs.layer.ViewSource.{view_source}
use Rattle.gen_stmt.proofs.Steps.{declared_step}
use Rattle.gen_stmt.proofs.initials.put_declared.Goals as goal

pub loop-object-preserved : goal.loop-object-preserved
loop-object-preserved c =
    declared_step (view_source c.args.source) c.args.strict c.args.objects.now c.loop-object.object-index
    c.object-item.result c.put_initial.new.code.items c.loop-object.code.items c.loop-object-test.true
    c.object-item.is c.in_ok-put_initial.ensures
    ∙ c.loop-object.invariant
