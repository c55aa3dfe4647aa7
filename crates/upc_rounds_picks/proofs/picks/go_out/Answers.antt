use Rattle.std.proofs.Common.{rules, ◌≡◌, ◌<◌, ℕ, false, true, is_some, map, length, sym, subst, ◌∙◌, inl}
use Rattle.turn_cell.specs.layer.Seats.{id_of, started}
use Rattle.upc_task.specs.layer.Sources.{Outcomes}
use Rattle.upc_task.specs.layer.Kept.{strand_of}
use Rattle.upc_task.proofs.Options.{match-some, match-none}
use Rattle.upc_rounds_teams.specs.layer.Course.{Moment, AreOf}
use Rattle.upc_rounds_teams.specs.layer.Runs.{StopsAt, NoneStops, moment_of}
use Rattle.upc_rounds_teams.specs.layer.Teams.{workers_of, seen_among}
use Rattle.upc_rounds.proofs.Running.{same-trans}
use Rattle.upc_rounds.proofs.Standings.{out-halted}
use Rattle.upc_rounds_teams.proofs.Crews.{many-workers}
use Rattle.upc_rounds.proofs.Ending.{among-same, done-halted, same-halted}
use Rattle.upc_rounds_picks.proofs.picks.go_out.Goals as goal

some-of : (n m a b : ℕ) → 0 < n → a ≡ n → b ≡ m → b ≡ a → 0 < m
some-of n m a b some x y e = subst (λ k. 0 < k) (sym x ∙ sym e ∙ y) some

pub finish_all-requires-clause-stopped : goal.finish_all-requires-clause-stopped
finish_all-requires-clause-stopped g c =
    let ks = workers_of c.args.places.now in
    let yes : is_some c.stopped.result ≡ true = search rules in
    match-some c.stopped.result (NoneStops ks) (StopsAt ks) yes c.stopped.ensures

pub rounds-requires-clause-quiet : goal.rounds-requires-clause-quiet
rounds-requires-clause-quiet g c =
    let ks = workers_of c.args.places.now in
    let no : is_some c.stopped.result ≡ false = search rules in
    match-none c.stopped.result (NoneStops ks) (StopsAt ks) no c.stopped.ensures

pub returns-then-is_some-clause-over : goal.returns-then-is_some-clause-over
returns-then-is_some-clause-over g c = λ f t.
    let ks = c.args.places.now in let ms = c.finish_all.new.places in let e = c.in_ok-finish_all.ensures in let u = e.stopped in
    let some : 0 < length ms = some-of (length ks) (length ms) (length (workers_of ks)) (length (workers_of ms)) c.requires.some (many-workers ks) (many-workers ms) e.same.many in
    done-halted (id_of c.args.cell.now) (started c.args.cell.now).0 c.args.code.now f ms c.halt_all.new.places some c.halt_all.ensures.seats (e.running f t) u.0 e.rested u.1 c.halt_all.ensures.workers

pub returns-then-is_some-clause-same : goal.returns-then-is_some-clause-same
returns-then-is_some-clause-same g c =
    same-trans (workers_of c.args.places.now) (workers_of c.finish_all.new.places) (workers_of c.halt_all.new.places) c.in_ok-finish_all.ensures.same
    (same-halted (workers_of c.finish_all.new.places) (workers_of c.halt_all.new.places) c.halt_all.ensures.workers)

pub returns-then-is_some-clause-out : goal.returns-then-is_some-clause-out
returns-then-is_some-clause-out g c =
    let o = (started c.args.cell.now).0 in
    let ks = c.args.places.now in let ms = c.finish_all.new.places in let ns = c.halt_all.new.places in let e = c.in_ok-finish_all.ensures in
    let some : 0 < length ms = some-of (length ks) (length ms) (length (workers_of ks)) (length (workers_of ms)) c.requires.some (many-workers ks) (many-workers ms) e.same.many in
    let mm : Moment = moment_of (o, seen_among ms) (workers_of ms) in (
      mm,
      inl e.rest,
      subst (λ l. (f : Outcomes) → AreOf mm l (map (strand_of f) (workers_of ns))) (sym (among-same ms ns some c.halt_all.ensures.seats))
          (out-halted (o, seen_among ms) (workers_of ms) (workers_of ns) c.halt_all.ensures.workers),
    )
