use Rattle.std.proofs.Common.{◌<◌, is_some, length, sym, subst, ap, ◌∙◌, arith}
use Rattle.upc_task.specs.layer.Kept.{Worker}
use Rattle.upc_rounds_teams.specs.layer.Teams.{workers_of}
use Rattle.upc_rounds.proofs.Running.{open-more, ended-more}
use Rattle.upc_rounds_teams.proofs.Crews.{some-place, worker-at, many-workers}
use Rattle.upc_rounds_picks.proofs.picks.count_open.Goals as goal
use Rattle.upc_rounds_picks.proofs.picks.count_open.Goals.{then-is_open, else-is_open}

pub loop-at-preserved : goal.loop-at-preserved
loop-at-preserved c =
    let ks = workers_of c.args.places.now in let t = c.loop-at.at in let h = c.loop-at.invariant in
    let lp : t < length c.args.places.now = omega arith in
    let lt : t < length ks = subst (λ n. t < n) (sym (many-workers c.args.places.now)) lp in
    elim c.if-is_open.branch [
      | then-is_open w ↦ let more = open-more ks t lt (c.is_open.ensures.yes w.if-is_open.true) in
          record { counted = omega (arith, h.counted, more, w.live-is); few = omega arith }
      | else-is_open w ↦
          let p = some-place c.args.places.now t lp in
          let more = ended-more ks t lt (λ (d : Worker). ap (λ (k : Worker). is_some k.«end») (worker-at c.args.places.now t p d lp) ∙ c.is_open.ensures.no w.if-is_open.false p) in
          record { counted = omega (arith, h.counted, more, w.live-is); few = omega arith }
    ]

pub returns : goal.returns
returns c =
    let h = c.loop-at.invariant in let ks = c.args.places.now in let m = many-workers ks in let t = c.loop-at-test.false in let e = c.loop-at.auto.at-end in
    h.counted ∙ ap Rattle.upc_rounds_teams.specs.layer.Runs.open_among (Rattle.std.proofs.lemmas.List.take_all c.loop-at.at (workers_of ks) (omega (arith, m, t, e)))
