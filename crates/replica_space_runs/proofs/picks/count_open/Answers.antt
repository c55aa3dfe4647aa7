use Rattle.std.proofs.Common.{◌≡◌, ◌<◌, true, false, length, sym, ap, ◌∙◌, arith}
use Rattle.std.proofs.lemmas.List.{take_all}
use Rattle.std.proofs.lemmas.List.Sums.{count_by_more_yes, count_by_more_no}
use Rattle.upc_task.proofs.Lists.{some-of}
use Rattle.replica_space_crews.specs.layer.Crews.{is_open, open_among}
use Rattle.replica_space_runs.proofs.picks.count_open.Goals as goal
use Rattle.replica_space_runs.proofs.picks.count_open.Goals.{then-is_open, else-is_open}

pub loop-at-preserved : goal.loop-at-preserved
loop-at-preserved c =
    let ks = c.args.workers.now in let t = c.loop-at.at in let h = c.loop-at.invariant in
    let lt : t < length ks = omega arith in let d = some-of ks t lt in
    elim c.if-is_open.branch [
      | then-is_open w ↦ let more = count_by_more_yes is_open ks t d lt (sym (c.is_open.ensures d) ∙ w.if-is_open.true) in
          record { counted = omega (arith, h.counted, more, w.live-is); few = omega arith }
      | else-is_open w ↦ let more = count_by_more_no is_open ks t d lt (sym (c.is_open.ensures d) ∙ w.if-is_open.false) in
          record { counted = omega (arith, h.counted, more, w.live-is); few = omega arith }
    ]

pub returns : goal.returns
returns c =
    let h = c.loop-at.invariant in let ks = c.args.workers.now in let t = c.loop-at-test.false in let e = c.loop-at.auto.at-end in
    h.counted ∙ ap open_among (take_all c.loop-at.at ks (omega (arith, t, e)))
