use Rattle.std.proofs.Common.{arith}
use Rattle.run_recorder_text.proofs.Counting.{few, none_left, one_more, too_many}
use Rattle.run_recorder_text.proofs.short.are_few.Goals as goal

pub returns-then-count-left : goal.returns-then-count-left
returns-then-count-left c =
    let e = one_more c.args.strands.now c.loop-strand.strand-index c.strand-item.result
    c.loop-strand-test.true c.strand-item.is in
    let k = c.len-count.ensures in
    too_many c.args.strands.now (omega (arith, e, k))

pub loop-strand-preserved : goal.loop-strand-preserved
loop-strand-preserved c =
    let e = one_more c.args.strands.now c.loop-strand.strand-index c.strand-item.result
    c.loop-strand-test.true c.strand-item.is in
    let k = c.len-count.ensures in
    omega (arith, e, k)

pub returns : goal.returns
returns c =
    let e = none_left c.args.strands.now c.loop-strand.strand-index c.loop-strand-test.false in
    few c.args.strands.now (omega (arith, e))
