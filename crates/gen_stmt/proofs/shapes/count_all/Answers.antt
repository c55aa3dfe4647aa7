use Rattle.std.proofs.Common.{arith}
use Rattle.gen_stmt.proofs.Steps.{count_step}
use Rattle.gen_stmt.proofs.shapes.count_all.Goals as goal

pub loop-item-preserved : goal.loop-item-preserved
loop-item-preserved c =
    let e = count_step c.args.items.now c.loop-item.item-index c.item-item.result c.loop-item-test.true
    c.item-item.is in
    omega (arith, e)
