use Rattle.std.proofs.Common.{◌∙◌}
use Rattle.gen_expr.specs.layer.ViewSource.{view_source}
use Rattle.gen_stmt.proofs.Steps.{access_step}
use Rattle.gen_stmt.proofs.functions.accesses.Goals as goal

pub loop-t-preserved : goal.loop-t-preserved
loop-t-preserved c =
    access_step (view_source c.args.source) c.args.parameters.now c.loop-t.t-index c.t-item.result
    c.put_access.new.cells.items c.loop-t.cells.items c.loop-t-test.true c.t-item.is c.in_ok-put_access.ensures
    ∙ c.loop-t.invariant
