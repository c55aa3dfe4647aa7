use Rattle.std.proofs.Common.{◌∙◌, ◌∷◌, [], ◌++◌, ap, false}
use Rattle.upc_values.specs.declared.order.Op.{Op}
use Rattle.upc_verify_orders.proofs.Tables.{point, point-more, point-skip}
use Rattle.upc_verify_orders.proofs.table.points_of.Goals as goal
use Rattle.upc_verify_orders.proofs.table.points_of.Goals.{then-name-thread+in_ok-push, else-name-thread}

none : Op
none = record { thread = 0; index = 0; write = false }

pub loop-place-preserved : goal.loop-place-preserved
unfolding none
loop-place-preserved c = elim c.if-name-thread.branch [
  | then-name-thread+in_ok-push w ↦
      ap (λ v. v.items) w.points-is
      ∙ point-more c.args.thread c.args.strict.now c.loop-place.place none c.loop-place.points.items w.push.new.self.items c.loop-place-test.true
      c.loop-place.invariant w.if-name-thread.true
      (w.in_ok-push.ensures.items ∙ ap (λ r. c.loop-place.points.items ++ point r c.loop-place.place ∷ []) w.rank_of-rank.ensures.rank)
  | else-name-thread w ↦
      ap (λ v. v.items) w.points-is
      ∙ point-skip c.args.thread c.args.strict.now c.loop-place.place none c.loop-place.points.items c.loop-place-test.true
      c.loop-place.invariant w.if-name-thread.false
]
