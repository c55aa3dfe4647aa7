use Rattle.std.proofs.Common.{rules, ◌≡◌, ◌∙◌, true, false, is_some, take, sym, subst, ap, inl, inr}
use Rattle.turn_cell.specs.layer.Seats.{started}
use Rattle.upc_rounds_teams.specs.layer.Course.{Moment, AreObeyed}
use Rattle.upc_rounds_teams.specs.layer.Runs.{StopsAt, NoneStops, open_among, moment_of}
use Rattle.upc_rounds_teams.specs.layer.Teams.{workers_of, seen_among}
use Rattle.upc_task.proofs.Options.{match-some, match-none}
use Rattle.upc_rounds.proofs.Running.{same-trans, same-refl}
use Rattle.upc_rounds.proofs.Standings.{obeyed-more, stopped-of, count-of}
use Rattle.upc_rounds_picks.proofs.picks.pick_all.Goals as goal

pub loop-pick-init : goal.loop-pick-init
loop-pick-init g c = record { running = λ f t. t; same = same-refl (workers_of c.args.places.now); moves = Rattle.std.proofs.Common.refl }

pub returns-then-is_some-clause-picked : goal.returns-then-is_some-clause-picked
returns-then-is_some-clause-picked g c =
    let h = c.loop-pick.invariant in let ms = workers_of c.loop-pick.places in
    let yes : is_some c.stopped.result ≡ true = search rules in
    let u = match-some c.stopped.result (NoneStops ms) (StopsAt ms) yes c.stopped.ensures in
    record { many = c.loop-pick.pick-index; moves = h.moves; rest = inr (inl (stopped-of ((started c.args.cell.now).0, seen_among c.loop-pick.places) ms u.0 u.1)) }

pub returns-then-not-moved-clause-running : goal.returns-then-not-moved-clause-running
returns-then-not-moved-clause-running g c = λ f run. c.in_ok-moved.ensures.running f (c.loop-pick.invariant.running f run)

pub returns-then-not-moved-clause-same : goal.returns-then-not-moved-clause-same
returns-then-not-moved-clause-same g c =
    same-trans (workers_of c.args.places.now) (workers_of c.loop-pick.places) (workers_of c.obey.new.places) c.loop-pick.invariant.same c.in_ok-moved.ensures.same

pub returns-then-not-moved-clause-picked : goal.returns-then-not-moved-clause-picked
returns-then-not-moved-clause-picked g c =
    let h = c.loop-pick.invariant in let i = c.loop-pick.pick-index in let picks = take i c.args.picks.now in let o = (started c.args.cell.now).0 in
    let first : Moment = moment_of (o, seen_among c.args.places.now) (workers_of c.args.places.now) in let ms = c.obey.new.places in
    let off : c.in_ok-moved.moved ≡ false = search rules in
    let same = c.in_ok-moved.ensures.no off in
    record {
      many = i;
      moves = subst (λ l. AreObeyed picks first (moment_of (o, seen_among l) (workers_of l))) (sym same.1) h.moves;
      rest = inr (inr (count-of (workers_of ms) ∙ ap (λ l. open_among (workers_of l)) same.1 ∙ same.0));
    }

pub obey-requires-clause-running : goal.obey-requires-clause-running
obey-requires-clause-running g c = let r = c.requires in (r.0, c.loop-pick.invariant.running r.0 r.1)

pub obey-requires-clause-quiet : goal.obey-requires-clause-quiet
obey-requires-clause-quiet g c =
    let ms = workers_of c.loop-pick.places in
    let no : is_some c.stopped.result ≡ false = search rules in
    match-none c.stopped.result (NoneStops ms) (StopsAt ms) no c.stopped.ensures

pub loop-pick-preserved : goal.loop-pick-preserved
loop-pick-preserved g c =
    let e = c.in_ok-moved.ensures in let h = c.loop-pick.invariant in let ms = c.obey.new.places in let o = (started c.args.cell.now).0 in
    record {
      running = λ f run. e.running f (h.running f run);
      same = same-trans (workers_of c.args.places.now) (workers_of c.loop-pick.places) (workers_of ms) h.same e.same;
      moves = obeyed-more c.args.picks.now c.loop-pick.pick-index 0 (moment_of (o, seen_among c.args.places.now) (workers_of c.args.places.now))
          (moment_of (o, seen_among c.loop-pick.places) (workers_of c.loop-pick.places)) (moment_of (o, seen_among ms) (workers_of ms)) c.loop-pick-test.true h.moves (e.yes c.if-not-moved.false);
    }
