use Rattle.std.proofs.Common.{◌≡◌, ◌<◌, length, sym, ◌∙◌, arith}
use Rattle.std.proofs.lemmas.List.Sums.{count_by_more_yes, count_by_more_no}
use Rattle.upc_task.proofs.Lists.{some-of}
use Rattle.replica_space_crews.specs.layer.Crews.{is_open}
use Rattle.replica_space_runs.proofs.picks.chosen.Goals as goal
use Rattle.replica_space_runs.proofs.picks.chosen.Goals.{then-is_open+else-left-eq0, else-is_open}

pub loop-at-preserved : goal.loop-at-preserved
loop-at-preserved c =
    let ks = c.args.workers.now in let t = c.loop-at.at in let h = c.loop-at.invariant in
    let lt : t < length ks = omega arith in let d = some-of ks t lt in
    elim c.if-is_open.branch [
      | then-is_open+else-left-eq0 w ↦ let more = count_by_more_yes is_open ks t d lt (sym (c.is_open.ensures d) ∙ w.if-is_open.true) in
          omega (arith, h, more, w.left-is)
      | else-is_open w ↦ let more = count_by_more_no is_open ks t d lt (sym (c.is_open.ensures d) ∙ w.if-is_open.false) in
          omega (arith, h, more, w.left-is)
    ]
