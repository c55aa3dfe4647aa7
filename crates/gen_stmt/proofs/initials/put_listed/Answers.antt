use Rattle.std.proofs.Common.{◌∙◌}
use Rattle.typed_tree.specs.ViewStatements.{view_object}
use Rattle.gen_expr.specs.layer.ViewSource.{view_source}
use Rattle.gen_stmt.proofs.Steps.{listed_step}
use Rattle.gen_stmt.proofs.initials.put_listed.Goals as goal

pub loop-index-preserved : goal.loop-index-preserved
loop-index-preserved c =
    listed_step (view_source c.args.source) c.args.strict (view_object c.args.object.now) c.args.values.now
    c.loop-index.index c.index-values-index.result c.put_element.new.code.items c.loop-index.code.items
    c.loop-index-test.true c.index-values-index.is c.in_ok-put_element.ensures
    ∙ c.loop-index.invariant
