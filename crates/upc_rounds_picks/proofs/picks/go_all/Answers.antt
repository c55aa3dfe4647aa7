use Rattle.std.proofs.Common.{◌<◌, sym, subst, ◌∙◌}
use Rattle.turn_cell.specs.layer.Seats.{started}
use Rattle.upc_rounds_teams.specs.layer.Runs.{moment_of}
use Rattle.upc_rounds_teams.specs.layer.Teams.{workers_of, seen_among}
use Rattle.upc_rounds.proofs.Running.{same-trans}
use Rattle.upc_rounds_teams.proofs.Crews.{many-workers}
use Rattle.upc_rounds_picks.proofs.picks.go_all.Goals as goal

pub go_out-requires-clause-some : goal.go_out-requires-clause-some
go_out-requires-clause-some g c =
    let ks = c.args.places.now in let ms = c.pick_all.new.places in
    subst (λ n. 0 < n) (sym (many-workers ks) ∙ sym c.in_ok-pick_all.ensures.same.many ∙ many-workers ms) c.requires.some

pub go_out-requires-clause-running : goal.go_out-requires-clause-running
go_out-requires-clause-running g c = let r = c.requires.running in (r.0, c.in_ok-pick_all.ensures.running r.0 r.1)

pub returns-clause-over : goal.returns-clause-over
returns-clause-over g c = λ f t. c.in_ok-go_out.ensures.over f (c.in_ok-pick_all.ensures.running f t)

pub returns-clause-same : goal.returns-clause-same
returns-clause-same g c =
    same-trans (workers_of c.args.places.now) (workers_of c.pick_all.new.places) (workers_of c.go_out.new.places) c.in_ok-pick_all.ensures.same c.in_ok-go_out.ensures.same

pub returns-clause-out : goal.returns-clause-out
returns-clause-out g c =
    let o = (started c.args.cell.now).0 in let ms = c.pick_all.new.places in let out = c.in_ok-go_out.ensures.out in
    (moment_of (o, seen_among ms) (workers_of ms), out.0, c.in_ok-pick_all.ensures.picked, out.1, out.2)
