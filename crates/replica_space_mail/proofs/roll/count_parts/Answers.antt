use Rattle.std.proofs.Common.{◌+◌, length, ap, ◌∙◌, arith}
use Rattle.replica_space.specs.Runs.{next_index}
use Rattle.replica_space_mail.proofs.Counting.{parts-more, length-more, joined-most}
use Rattle.replica_space_mail.proofs.roll.count_parts.Goals as goal

pub overflow_add-count : goal.overflow_add-count
overflow_add-count c =
    let i = c.loop-part.part-index in
    let cs = c.args.parts.now in
    let more = length-more cs i c.part-item.result c.loop-part-test.true c.part-item.is in
    let most = joined-most cs (i + 1) in
    let here = ap length c.as_slice.ensures.value in
    omega (arith, more, most, here, c.count_in-count.ensures.most, c.loop-part.invariant.1, c.requires)

pub loop-part-preserved : goal.loop-part-preserved
loop-part-preserved c =
    let i = c.loop-part.part-index in
    let t = c.args.thread in
    let cs = c.args.parts.now in
    let inv = c.loop-part.invariant in
    let more = parts-more t cs i c.part-item.result c.loop-part-test.true c.part-item.is in
    let long = length-more cs i c.part-item.result c.loop-part-test.true c.part-item.is in
    let count = c.count_in-count.ensures.count ∙ ap (next_index t) c.as_slice.ensures.value in
    let here = ap length c.as_slice.ensures.value in
    (omega (arith, more, count, inv.0), omega (arith, long, here, c.count_in-count.ensures.most, inv.1))
