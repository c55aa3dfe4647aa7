use Rattle.std.proofs.Common.{◌-◌, ◌+◌, ◌/◌, ◌<◌, ◌≤◌, length, arith}
use Rattle.upc_verify_orders.specs.declared.table.Point.{Point}
use Rattle.upc_verify_orders.proofs.Tables.{below-more, above-more}
use Rattle.upc_verify_orders.proofs.table.below.Goals as goal

zero : Point
zero = record { rank = 0; place = 0 }

pub loop-low-preserved-then-points-middle : goal.loop-low-preserved-then-points-middle
loop-low-preserved-then-points-middle c =
    let ps = c.args.points.now in
    let low = c.loop-low.low in
    let high = c.loop-low.high in
    let v = c.loop-low.invariant in
    let test : low < high = c.loop-low-test.true in
    let end : high ≤ length ps = v.within in
    let m = low + (high - low) / 2 in
    let under : m < high = omega arith in
    record {
      order = omega arith;
      within = v.within;
      less = λ i d lt. below-more ps c.requires c.args.rank m i d _ (omega arith) c.if-points-middle.true lt;
      more = v.more;
    }

pub loop-low-preserved : goal.loop-low-preserved
loop-low-preserved c =
    let ps = c.args.points.now in
    let low = c.loop-low.low in
    let high = c.loop-low.high in
    let v = c.loop-low.invariant in
    let test : low < high = c.loop-low-test.true in
    let end : high ≤ length ps = v.within in
    let m = low + (high - low) / 2 in
    let under : m < high = omega arith in
    record {
      order = omega arith;
      within = omega arith;
      less = v.less;
      more = λ i d le lt. above-more ps c.requires c.args.rank m i d _ lt c.if-points-middle.false le;
    }
