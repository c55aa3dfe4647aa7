use Rattle.std.proofs.Common.{◌-◌, sym, arith}
use Rattle.upc_verify_orders.specs.declared.table.Point.{Point}
use Rattle.upc_verify_orders.proofs.Tables.{up-none, up-at}
use Rattle.upc_verify_orders.proofs.table.reached.Goals as goal

pub returns-then-count-eq0 : goal.returns-then-count-eq0
returns-then-count-eq0 c =
    let none = c.if-count-eq0.true in
    sym (up-none c.args.rank c.args.points.now (λ i d lt. let k = c.below-count.ensures.more i d (omega arith) lt in omega arith))

pub returns-else-count-eq0 : goal.returns-else-count-eq0
returns-else-count-eq0 c =
    let n = c.below-count.result in
    let ps = c.args.points.now in
    let some = c.if-count-eq0.false in
    let w = c.below-count.ensures.within in
    let d : Point = record { rank = 0; place = 0 } in
    sym (up-at c.args.rank ps (n - 1) d (omega arith) (let k = c.below-count.ensures.less (n - 1) d (omega arith) in omega arith)
    (λ i e lt l. let k = c.below-count.ensures.more i e (omega arith) l in omega arith))
