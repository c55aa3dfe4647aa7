use Rattle.std.proofs.Common.{rules, ◌≡◌, ◌<◌, ℕ, suc, None, is_some, true, false, map, length, refl, sym, ap, subst, ◌∙◌, inr}
use Rattle.turn_cell.specs.layer.Seats.{id_of, started}
use Rattle.upc_values.specs.Lists.{Numbered}
use Rattle.upc_task.specs.layer.Sources.{Outcomes}
use Rattle.upc_task.specs.layer.Kept.{strand_of}
use Rattle.upc_task.proofs.Options.{match-some, match-none}
use Rattle.upc_rounds_teams.specs.layer.Course.{Moment, GoesRounds, AreOf}
use Rattle.upc_rounds_teams.specs.layer.Runs.{AreSame, StopsAt, NoneStops, Wanting, moment_of}
use Rattle.upc_rounds_teams.specs.layer.Teams.{workers_of, seen_among}
use Rattle.upc_rounds.proofs.Running.{same-trans, same-refl}
use Rattle.upc_rounds.proofs.Standings.{out-halted, out-locked, out-ended}
use Rattle.upc_rounds_teams.proofs.Crews.{many-workers}
use Rattle.upc_rounds.proofs.Ending.{among-same, done-halted, done-locked, done-ended, same-halted, same-locked}
use Rattle.upc_rounds_picks.proofs.picks.rounds.Goals as goal

some-of : (n m a b : ℕ) → 0 < n → a ≡ n → b ≡ m → b ≡ a → 0 < m
some-of n m a b some x y e = subst (λ k. 0 < k) (sym x ∙ sym e ∙ y) some

pub loop-init : goal.loop-init
loop-init g c = record {
  some = c.requires.some;
  running = λ f t. t;
  same = same-refl (workers_of c.args.places.now);
  quiet = c.requires.quiet;
  went = (0, refl);
}

pub round_in_turn-requires-clause-running : goal.round_in_turn-requires-clause-running
round_in_turn-requires-clause-running g c = let r = c.requires.running in (r.0, c.loop.invariant.running r.0 r.1)

pub none_goes-requires-clause-goes : goal.none_goes-requires-clause-goes
none_goes-requires-clause-goes g c =
    let r = c.requires.running in (c.args.code.now, (r.0, c.in_ok-round_in_turn.ensures.running r.0 (c.loop.invariant.running r.0 r.1)))

pub none_goes-requires-clause-some : goal.none_goes-requires-clause-some
none_goes-requires-clause-some g c =
    let z = id_of c.args.cell.now in let o = (started c.args.cell.now).0 in let code = c.args.code.now in let h = c.loop.invariant in let r = c.requires.running in
    let first = c.args.places.now in let ks = c.round_in_turn.new.places in let e = c.in_ok-round_in_turn.ensures in
    let some : 0 < length ks = some-of (length c.loop.places) (length ks) (length (workers_of c.loop.places)) (length (workers_of ks)) h.some (many-workers c.loop.places) (many-workers ks) e.same.many in
    let m0 : Moment = moment_of (o, seen_among first) (workers_of first) in let ml : Moment = moment_of (o, seen_among c.loop.places) (workers_of c.loop.places) in
    let mk : Moment = moment_of (o, seen_among ks) (workers_of ks) in
    some

pub loop-preserved : goal.loop-preserved
loop-preserved g c =
    let z = id_of c.args.cell.now in let o = (started c.args.cell.now).0 in let code = c.args.code.now in let h = c.loop.invariant in let r = c.requires.running in
    let first = c.args.places.now in let ks = c.round_in_turn.new.places in let e = c.in_ok-round_in_turn.ensures in
    let some : 0 < length ks = some-of (length c.loop.places) (length ks) (length (workers_of c.loop.places)) (length (workers_of ks)) h.some (many-workers c.loop.places) (many-workers ks) e.same.many in
    let m0 : Moment = moment_of (o, seen_among first) (workers_of first) in let ml : Moment = moment_of (o, seen_among c.loop.places) (workers_of c.loop.places) in
    let mk : Moment = moment_of (o, seen_among ks) (workers_of ks) in
    let ms = c.none_goes.new.places in let n = c.in_ok-none.ensures in
    let no : is_some c.stopped.result ≡ false = search rules in
    let quiet : NoneStops (workers_of ks) = match-none c.stopped.result (NoneStops (workers_of ks)) (StopsAt (workers_of ks)) no c.stopped.ensures in
    let somem : 0 < length ms = some-of (length ks) (length ms) (length (workers_of ks)) (length (workers_of ms)) some (many-workers ks) (many-workers ms) (ap length n.workers) in
    let seen : seen_among ms ≡ seen_among ks = (n.crew code r.0 (e.running r.0 (h.running r.0 r.1))).1 in
    let mm : Moment = moment_of (o, seen_among ms) (workers_of ms) in
    let still : mk ≡ mm = ap (λ l. let x : Moment = moment_of (o, l) (workers_of ks) in x) (sym seen) ∙ ap (λ ws. let x : Moment = moment_of (o, seen_among ms) ws in x) (sym n.workers) in
    record {
      some = somem;
      running = λ f t. (n.crew code f (e.running f (h.running f t))).0;
      same = same-trans (workers_of first) (workers_of ks) (workers_of ms)
          (same-trans (workers_of first) (workers_of c.loop.places) (workers_of ks) h.same e.same)
          (subst (AreSame (workers_of ks)) (sym n.workers) (same-refl (workers_of ks)));
      quiet = subst NoneStops (sym n.workers) quiet;
      went = (suc h.went.0, subst (GoesRounds (suc h.went.0) m0) still (ml, h.went.1, e.round));
    }

pub returns-then-is_some-clause-over : goal.returns-then-is_some-clause-over
returns-then-is_some-clause-over g c = λ f t.
    let z = id_of c.args.cell.now in let o = (started c.args.cell.now).0 in let code = c.args.code.now in let h = c.loop.invariant in let r = c.requires.running in
    let first = c.args.places.now in let ks = c.round_in_turn.new.places in let e = c.in_ok-round_in_turn.ensures in
    let some : 0 < length ks = some-of (length c.loop.places) (length ks) (length (workers_of c.loop.places)) (length (workers_of ks)) h.some (many-workers c.loop.places) (many-workers ks) e.same.many in
    let m0 : Moment = moment_of (o, seen_among first) (workers_of first) in let ml : Moment = moment_of (o, seen_among c.loop.places) (workers_of c.loop.places) in
    let mk : Moment = moment_of (o, seen_among ks) (workers_of ks) in
    let yes : is_some c.stopped.result ≡ true = search rules in
    let u = match-some c.stopped.result (NoneStops (workers_of ks)) (StopsAt (workers_of ks)) yes c.stopped.ensures in
    done-halted z o code f ks c.halt_all.new.places some c.halt_all.ensures.seats (e.running f (h.running f t)) u.0 e.rested u.1 c.halt_all.ensures.workers

pub returns-then-is_some-clause-same : goal.returns-then-is_some-clause-same
returns-then-is_some-clause-same g c =
    let z = id_of c.args.cell.now in let o = (started c.args.cell.now).0 in let code = c.args.code.now in let h = c.loop.invariant in let r = c.requires.running in
    let first = c.args.places.now in let ks = c.round_in_turn.new.places in let e = c.in_ok-round_in_turn.ensures in
    let some : 0 < length ks = some-of (length c.loop.places) (length ks) (length (workers_of c.loop.places)) (length (workers_of ks)) h.some (many-workers c.loop.places) (many-workers ks) e.same.many in
    let m0 : Moment = moment_of (o, seen_among first) (workers_of first) in let ml : Moment = moment_of (o, seen_among c.loop.places) (workers_of c.loop.places) in
    let mk : Moment = moment_of (o, seen_among ks) (workers_of ks) in
    same-trans (workers_of first) (workers_of ks) (workers_of c.halt_all.new.places)
    (same-trans (workers_of first) (workers_of c.loop.places) (workers_of ks) h.same e.same)
    (same-halted (workers_of ks) (workers_of c.halt_all.new.places) c.halt_all.ensures.workers)

pub returns-then-is_some-clause-out : goal.returns-then-is_some-clause-out
returns-then-is_some-clause-out g c =
    let z = id_of c.args.cell.now in let o = (started c.args.cell.now).0 in let code = c.args.code.now in let h = c.loop.invariant in let r = c.requires.running in
    let first = c.args.places.now in let ks = c.round_in_turn.new.places in let e = c.in_ok-round_in_turn.ensures in
    let some : 0 < length ks = some-of (length c.loop.places) (length ks) (length (workers_of c.loop.places)) (length (workers_of ks)) h.some (many-workers c.loop.places) (many-workers ks) e.same.many in
    let m0 : Moment = moment_of (o, seen_among first) (workers_of first) in let ml : Moment = moment_of (o, seen_among c.loop.places) (workers_of c.loop.places) in
    let mk : Moment = moment_of (o, seen_among ks) (workers_of ks) in
    let ns = c.halt_all.new.places in (
      mk,
      inr (suc h.went.0, (ml, h.went.1, e.round)),
      subst (λ l. (f : Outcomes) → AreOf mk l (map (strand_of f) (workers_of ns))) (sym (among-same ks ns some c.halt_all.ensures.seats))
          (out-halted (o, seen_among ks) (workers_of ks) (workers_of ns) c.halt_all.ensures.workers),
    )

pub returns-then-all_ended-clause-over : goal.returns-then-all_ended-clause-over
returns-then-all_ended-clause-over g c = λ f t.
    let z = id_of c.args.cell.now in let o = (started c.args.cell.now).0 in let code = c.args.code.now in let h = c.loop.invariant in let r = c.requires.running in
    let first = c.args.places.now in let ks = c.round_in_turn.new.places in let e = c.in_ok-round_in_turn.ensures in
    let some : 0 < length ks = some-of (length c.loop.places) (length ks) (length (workers_of c.loop.places)) (length (workers_of ks)) h.some (many-workers c.loop.places) (many-workers ks) e.same.many in
    let m0 : Moment = moment_of (o, seen_among first) (workers_of first) in let ml : Moment = moment_of (o, seen_among c.loop.places) (workers_of c.loop.places) in
    let mk : Moment = moment_of (o, seen_among ks) (workers_of ks) in
    done-ended z o code f ks some (e.running f (h.running f t)) (c.all_ended.ensures c.if-all_ended.true)

pub returns-then-all_ended-clause-same : goal.returns-then-all_ended-clause-same
returns-then-all_ended-clause-same g c =
    same-trans (workers_of c.args.places.now) (workers_of c.loop.places) (workers_of c.round_in_turn.new.places) c.loop.invariant.same c.in_ok-round_in_turn.ensures.same

pub returns-then-all_ended-clause-out : goal.returns-then-all_ended-clause-out
returns-then-all_ended-clause-out g c =
    let z = id_of c.args.cell.now in let o = (started c.args.cell.now).0 in let code = c.args.code.now in let h = c.loop.invariant in let r = c.requires.running in
    let first = c.args.places.now in let ks = c.round_in_turn.new.places in let e = c.in_ok-round_in_turn.ensures in
    let some : 0 < length ks = some-of (length c.loop.places) (length ks) (length (workers_of c.loop.places)) (length (workers_of ks)) h.some (many-workers c.loop.places) (many-workers ks) e.same.many in
    let m0 : Moment = moment_of (o, seen_among first) (workers_of first) in let ml : Moment = moment_of (o, seen_among c.loop.places) (workers_of c.loop.places) in
    let mk : Moment = moment_of (o, seen_among ks) (workers_of ks) in (
      mk,
      inr (suc h.went.0, (ml, h.went.1, e.round)),
      out-ended (o, seen_among ks) (workers_of ks) (c.all_ended.ensures c.if-all_ended.true),
    )

pub returns-then-none-clause-over : goal.returns-then-none-clause-over
returns-then-none-clause-over g c = λ f t.
    let z = id_of c.args.cell.now in let o = (started c.args.cell.now).0 in let code = c.args.code.now in let h = c.loop.invariant in let r = c.requires.running in
    let first = c.args.places.now in let ks = c.round_in_turn.new.places in let e = c.in_ok-round_in_turn.ensures in
    let some : 0 < length ks = some-of (length c.loop.places) (length ks) (length (workers_of c.loop.places)) (length (workers_of ks)) h.some (many-workers c.loop.places) (many-workers ks) e.same.many in
    let m0 : Moment = moment_of (o, seen_among first) (workers_of first) in let ml : Moment = moment_of (o, seen_among c.loop.places) (workers_of c.loop.places) in
    let mk : Moment = moment_of (o, seen_among ks) (workers_of ks) in
    let ms = c.none_goes.new.places in let n = c.in_ok-none.ensures in
    let no : is_some c.stopped.result ≡ false = search rules in
    let quiet : NoneStops (workers_of ks) = match-none c.stopped.result (NoneStops (workers_of ks)) (StopsAt (workers_of ks)) no c.stopped.ensures in
    let somem : 0 < length ms = some-of (length ks) (length ms) (length (workers_of ks)) (length (workers_of ms)) some (many-workers ks) (many-workers ms) (ap length n.workers) in
    let seen : seen_among ms ≡ seen_among ks = (n.crew code r.0 (e.running r.0 (h.running r.0 r.1))).1 in
    let mm : Moment = moment_of (o, seen_among ms) (workers_of ms) in
    let still : mk ≡ mm = ap (λ l. let x : Moment = moment_of (o, l) (workers_of ks) in x) (sym seen) ∙ ap (λ ws. let x : Moment = moment_of (o, seen_among ms) ws in x) (sym n.workers) in
    let want : Numbered (λ i k. k.«end» ≡ None → Wanting o (seen_among ms) k) (workers_of ms) = n.yes (search rules) in
    done-locked z o code f ms c.lock_all.new.places somem c.in_ok-lock_all.ensures.seats (n.crew code f (e.running f (h.running f t))).0 want (subst NoneStops (sym n.workers) quiet) c.in_ok-lock_all.ensures.workers

pub returns-then-none-clause-same : goal.returns-then-none-clause-same
returns-then-none-clause-same g c =
    let z = id_of c.args.cell.now in let o = (started c.args.cell.now).0 in let code = c.args.code.now in let h = c.loop.invariant in let r = c.requires.running in
    let first = c.args.places.now in let ks = c.round_in_turn.new.places in let e = c.in_ok-round_in_turn.ensures in
    let some : 0 < length ks = some-of (length c.loop.places) (length ks) (length (workers_of c.loop.places)) (length (workers_of ks)) h.some (many-workers c.loop.places) (many-workers ks) e.same.many in
    let m0 : Moment = moment_of (o, seen_among first) (workers_of first) in let ml : Moment = moment_of (o, seen_among c.loop.places) (workers_of c.loop.places) in
    let mk : Moment = moment_of (o, seen_among ks) (workers_of ks) in
    let ms = c.none_goes.new.places in let n = c.in_ok-none.ensures in
    let no : is_some c.stopped.result ≡ false = search rules in
    let quiet : NoneStops (workers_of ks) = match-none c.stopped.result (NoneStops (workers_of ks)) (StopsAt (workers_of ks)) no c.stopped.ensures in
    let somem : 0 < length ms = some-of (length ks) (length ms) (length (workers_of ks)) (length (workers_of ms)) some (many-workers ks) (many-workers ms) (ap length n.workers) in
    let seen : seen_among ms ≡ seen_among ks = (n.crew code r.0 (e.running r.0 (h.running r.0 r.1))).1 in
    let mm : Moment = moment_of (o, seen_among ms) (workers_of ms) in
    let still : mk ≡ mm = ap (λ l. let x : Moment = moment_of (o, l) (workers_of ks) in x) (sym seen) ∙ ap (λ ws. let x : Moment = moment_of (o, seen_among ms) ws in x) (sym n.workers) in
    let want : Numbered (λ i k. k.«end» ≡ None → Wanting o (seen_among ms) k) (workers_of ms) = n.yes (search rules) in
    same-trans (workers_of first) (workers_of ks) (workers_of c.lock_all.new.places)
    (same-trans (workers_of first) (workers_of c.loop.places) (workers_of ks) h.same e.same)
    (subst (λ ws. AreSame ws (workers_of c.lock_all.new.places)) n.workers
    (same-locked o (seen_among ms) (workers_of ms) (workers_of c.lock_all.new.places) want c.in_ok-lock_all.ensures.workers))

pub returns-then-none-clause-out : goal.returns-then-none-clause-out
returns-then-none-clause-out g c =
    let z = id_of c.args.cell.now in let o = (started c.args.cell.now).0 in let code = c.args.code.now in let h = c.loop.invariant in let r = c.requires.running in
    let first = c.args.places.now in let ks = c.round_in_turn.new.places in let e = c.in_ok-round_in_turn.ensures in
    let some : 0 < length ks = some-of (length c.loop.places) (length ks) (length (workers_of c.loop.places)) (length (workers_of ks)) h.some (many-workers c.loop.places) (many-workers ks) e.same.many in
    let m0 : Moment = moment_of (o, seen_among first) (workers_of first) in let ml : Moment = moment_of (o, seen_among c.loop.places) (workers_of c.loop.places) in
    let mk : Moment = moment_of (o, seen_among ks) (workers_of ks) in
    let ms = c.none_goes.new.places in let n = c.in_ok-none.ensures in
    let no : is_some c.stopped.result ≡ false = search rules in
    let quiet : NoneStops (workers_of ks) = match-none c.stopped.result (NoneStops (workers_of ks)) (StopsAt (workers_of ks)) no c.stopped.ensures in
    let somem : 0 < length ms = some-of (length ks) (length ms) (length (workers_of ks)) (length (workers_of ms)) some (many-workers ks) (many-workers ms) (ap length n.workers) in
    let seen : seen_among ms ≡ seen_among ks = (n.crew code r.0 (e.running r.0 (h.running r.0 r.1))).1 in
    let mm : Moment = moment_of (o, seen_among ms) (workers_of ms) in
    let still : mk ≡ mm = ap (λ l. let x : Moment = moment_of (o, l) (workers_of ks) in x) (sym seen) ∙ ap (λ ws. let x : Moment = moment_of (o, seen_among ms) ws in x) (sym n.workers) in
    let want : Numbered (λ i k. k.«end» ≡ None → Wanting o (seen_among ms) k) (workers_of ms) = n.yes (search rules) in
    let ns = c.lock_all.new.places in (
      mm,
      inr (suc h.went.0, subst (GoesRounds (suc h.went.0) m0) still (ml, h.went.1, e.round)),
      subst (λ l. (f : Outcomes) → AreOf mm l (map (strand_of f) (workers_of ns))) (sym (among-same ms ns somem c.in_ok-lock_all.ensures.seats))
          (out-locked (o, seen_among ms) o (seen_among ms) (workers_of ms) (workers_of ns) want c.in_ok-lock_all.ensures.workers),
    )
