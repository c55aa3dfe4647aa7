use Rattle.std.proofs.Common.{◌∙◌}
use Rattle.gen_stmt.proofs.Compiling.{object_step, objects_end}
use Rattle.gen_stmt.proofs.programs.put_objects.Goals as goal

pub loop-shape-preserved : goal.loop-shape-preserved
loop-shape-preserved c =
    object_step c.args.shapes.now c.loop-shape.shape-index c.shape-item.result c.in_ok-copy.copy c.loop-shape.builder
    c.append_object.new.self c.loop-shape-test.true c.shape-item.is c.in_ok-copy.ensures
    c.in_ok-append_object.ensures.done
    ∙ c.loop-shape.invariant

pub returns : goal.returns
returns c =
    objects_end c.args.shapes.now c.loop-shape.shape-index c.loop-shape.builder c.args.builder.now
    c.loop-shape-test.false c.loop-shape.invariant
