use Rattle.std.proofs.Common.{sym, arith}
use Rattle.upc_verify_orders.specs.declared.table.Point.{Point}
use Rattle.upc_verify_orders.proofs.Tables.{from-none, from-at}
use Rattle.upc_verify_orders.proofs.table.reaches.Goals as goal

pub returns-then-count-points : goal.returns-then-count-points
returns-then-count-points c =
    let n = c.below-count.result in
    let d : Point = record { rank = 0; place = 0 } in
    let lt = c.if-count-points.true in
    sym (from-at c.args.rank c.args.none c.args.points.now n d lt (c.below-count.ensures.more n d (omega arith) lt) (λ i e l. c.below-count.ensures.less i e l))

pub returns-else-count-points : goal.returns-else-count-points
returns-else-count-points c =
    let all = c.if-count-points.false in
    sym (from-none c.args.rank c.args.none c.args.points.now (λ i d lt. c.below-count.ensures.less i d (omega arith)))
