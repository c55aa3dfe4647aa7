use Rattle.std.proofs.Common.{◌<◌, length, ◌∙◌, arith, rules}
use Rattle.collectives.proofs.Following.{part_begun}
use Rattle.collectives.proofs.copies.first.Goals as goal

pub returns-then-len-gt0 : goal.returns-then-len-gt0
returns-then-len-gt0 c =
    let some : 0 < length c.in_ok-cells.cells.items = omega arith in
    part_begun c.args.thread.now.shapes.now c.args.bytes c.args.parts.items c.loop-at.at c.index.result.now (search rules) c.index.ensures
    c.in_ok-cells.cells.items c.index-then-len-gt0.result.now c.in_ok-cells.ensures.cells some c.index-then-len-gt0.ensures
    ∙ c.loop-at.invariant
