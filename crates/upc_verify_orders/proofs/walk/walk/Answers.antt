use Rattle.std.proofs.Common.{◌∙◌, ◌<◌, ◌≤◌, sym, subst, false, List, get_or, arith}
use Rattle.std.proofs.lemmas.Bool.{false≢true}
use Rattle.upc_values.specs.Lists.{Pairwise}
use Rattle.upc_values.specs.declared.order.Op.{Op}
use Rattle.upc_verify_orders.specs.declared.table.Point.{Point}
use Rattle.upc_verify_orders.specs.code.Tables.{reached, reaches}
use Rattle.upc_verify_orders.proofs.Tables.{ascending, found-points, found-reached, found-reaches, within-list, walk-step, walk-stops}
use Rattle.upc_verify_orders.proofs.walk.walk.Goals as goal

abbrev none : Op
none = record { thread = 0; index = 0; write = false }

abbrev Ascend : List Point → Type 0
Ascend ps = Pairwise (λ a b. a.rank < b.rank) ps

pub reaches-next-requires : goal.reaches-next-requires
reaches-next-requires c =
    let strict = c.args.strict.now in
    let o = get_or c.args.order.now c.loop-name.name-index none in
    let e = c.as_slice-points.ensures ∙ found-points strict c.args.tables.now c.args.order.now c.loop-name.name-index none c.index-tables-name.result c.requires.tables c.requires.below c.loop-name-test.true c.index-tables-name.is in
    record { sorted = subst Ascend (sym e) (ascending o.thread 0 strict c.requires.kept) }

pub returns-then-most-next : goal.returns-then-most-next
returns-then-most-next c =
    let strict = c.args.strict.now in
    let order = c.args.order.now in
    let i = c.loop-name.name-index in
    let o = get_or order i none in
    let e = c.as_slice-points.ensures ∙ found-points strict c.args.tables.now order i none c.index-tables-name.result c.requires.tables c.requires.below c.loop-name-test.true c.index-tables-name.is in
    let s = found-reaches strict o c.as_slice-points.result.now c.rank_of-rank.result c.reaches-next.result e c.rank_of-rank.ensures.rank c.reaches-next.ensures in (
      λ f. absurd (false≢true f),
      λ p. absurd (walk-stops strict order (Pairwise (λ a b. reached strict a ≤ reaches strict b) order) i none c.loop-name.most c.reaches-next.result c.loop-name-test.true s c.if-most-next.true c.loop-name.invariant p),
    )

pub reached-requires-clause-sorted : goal.reached-requires-clause-sorted
reached-requires-clause-sorted c =
    let strict = c.args.strict.now in
    let o = get_or c.args.order.now c.loop-name.name-index none in
    let e = c.as_slice-points.ensures ∙ found-points strict c.args.tables.now c.args.order.now c.loop-name.name-index none c.index-tables-name.result c.requires.tables c.requires.below c.loop-name-test.true c.index-tables-name.is in
    subst Ascend (sym e) (ascending o.thread 0 strict c.requires.kept)

pub reached-requires-clause-fits : goal.reached-requires-clause-fits
reached-requires-clause-fits c = let k = c.rank_of-rank.ensures.few in omega arith

pub reached-requires-clause-within : goal.reached-requires-clause-within
reached-requires-clause-within c =
    let strict = c.args.strict.now in
    let o = get_or c.args.order.now c.loop-name.name-index none in
    let e = c.as_slice-points.ensures ∙ found-points strict c.args.tables.now c.args.order.now c.loop-name.name-index none c.index-tables-name.result c.requires.tables c.requires.below c.loop-name-test.true c.index-tables-name.is in
    within-list strict o.thread c.as_slice-points.result.now e

pub loop-name-preserved : goal.loop-name-preserved
loop-name-preserved c =
    let strict = c.args.strict.now in
    let order = c.args.order.now in
    let i = c.loop-name.name-index in
    let o = get_or order i none in
    let e = c.as_slice-points.ensures ∙ found-points strict c.args.tables.now order i none c.index-tables-name.result c.requires.tables c.requires.below c.loop-name-test.true c.index-tables-name.is in
    let s = found-reaches strict o c.as_slice-points.result.now c.rank_of-rank.result c.reaches-next.result e c.rank_of-rank.ensures.rank c.reaches-next.ensures in
    let r = found-reached strict o c.as_slice-points.result.now c.rank_of-rank.result c.reached.result e c.rank_of-rank.ensures.rank c.reached.ensures in
    walk-step strict order (Pairwise (λ a b. reached strict a ≤ reaches strict b) order) i none c.loop-name.most c.greater-most.result c.reached.result c.reaches-next.result c.loop-name-test.true s r
    c.if-most-next.false c.greater-most.ensures.first c.greater-most.ensures.second c.greater-most.ensures.one c.loop-name.invariant
