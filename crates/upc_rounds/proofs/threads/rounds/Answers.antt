use Rattle.std.proofs.Common.{rules, ◌≡◌, ◌<◌, ℕ, List, Option, MatchOption, None, is_some, true, false, length, refl, sym, ap, subst, ◌∙◌, get_or}
use Rattle.turn_cell.specs.layer.Seats.{id_of, started}
use Rattle.upc_values.specs.Lists.{Numbered}
use Rattle.upc_rounds_teams.specs.declared.place.Place.{Place}
use Rattle.upc_task.proofs.Options.{match-some, match-none}
use Rattle.upc_rounds_teams.specs.layer.Runs.{StopsAt, NoneStops, Wanting, AreEach, locked}
use Rattle.upc_rounds_teams.specs.layer.Played.{GoneByRounds}
use Rattle.upc_rounds_teams.specs.layer.Teams.{workers_of, seen_among}
use Rattle.upc_rounds.proofs.Running.{same-trans, same-refl}
use Rattle.upc_rounds_teams.proofs.Crews.{many-workers, crew-running}
use Rattle.upc_rounds_teams.proofs.Rounding.{goes-on}
use Rattle.upc_rounds.proofs.Ending.{seats-self, ended-self, done-halted, done-locked, done-ended, ended-gone, ends-halted, ends-locked, same-halted, same-locked}
use Rattle.upc_rounds.proofs.threads.rounds.Goals as goal

some-of : (n m a b : ℕ) → 0 < n → a ≡ n → b ≡ m → b ≡ a → 0 < m
some-of n m a b some x y e = subst (λ k. 0 < k) (sym x ∙ sym e ∙ y) some

stopped-in : (r : Option ℕ) (ks xs : List Place) → MatchOption r (NoneStops (workers_of xs)) (StopsAt (workers_of xs)) → xs ≡ ks
    → MatchOption r (NoneStops (workers_of ks)) (StopsAt (workers_of ks))
stopped-in r ks xs h is = subst (λ l. MatchOption r (NoneStops (workers_of l)) (StopsAt (workers_of l))) is h

ended-in : (ks xs : List Place) → Numbered (λ _ k. is_some k.«end» ≡ true) (workers_of xs) → xs ≡ ks → Numbered (λ _ k. is_some k.«end» ≡ true) (workers_of ks)
ended-in ks xs h is = subst (λ l. Numbered (λ _ k. is_some k.«end» ≡ true) (workers_of l)) is h

pub loop-init : goal.loop-init
loop-init g c = let h = c.requires.staff in record { many = h.many; owned = h.owned; idle = h.idle; some = c.requires.some; team = λ f t. t; same = same-refl (workers_of c.args.places.now.items) }

pub go-requires-clause-staff : goal.go-requires-clause-staff
go-requires-clause-staff g c κs within = let h = c.loop.invariant in record { many = h.many; owned = h.owned; work = c.requires.staff.work; idle = h.idle }

pub go-requires-clause-team : goal.go-requires-clause-team
go-requires-clause-team g c κs within = let t = c.requires.team in (t.0, c.loop.invariant.team t.0 t.1)

pub none_goes-requires-clause-goes : goal.none_goes-requires-clause-goes
none_goes-requires-clause-goes g c =
    let t = c.requires.team in
    (c.args.code.now, (t.0, (c.in_ok-go.ensures.gone t.0 (c.loop.invariant.team t.0 t.1)).crew))

pub none_goes-requires-clause-some : goal.none_goes-requires-clause-some
none_goes-requires-clause-some g c =
    let z = id_of c.args.cell.now in let o = (started c.args.cell.now).0 in let code = c.args.code.now in let h = c.loop.invariant in
    let ks = c.go.new.places.items in
    some-of (length c.loop.places.items) (length ks) (length (workers_of c.loop.places.items)) (length (workers_of ks)) h.some (many-workers c.loop.places.items) (many-workers ks) c.in_ok-go.ensures.same.many

pub loop-preserved : goal.loop-preserved
loop-preserved g c =
    let z = id_of c.args.cell.now in let o = (started c.args.cell.now).0 in let code = c.args.code.now in let h = c.loop.invariant in
    let ks = c.go.new.places.items in
    let ms = c.none_goes.new.places.items in let e = c.in_ok-none.ensures in
    let no : is_some c.stopped.result ≡ false = search rules in
    let quiet : NoneStops (workers_of ks) = match-none c.stopped.result (NoneStops (workers_of ks)) (StopsAt (workers_of ks)) no (stopped-in c.stopped.result ks _ c.stopped.ensures (search rules)) in
    let off : c.in_ok-none.none ≡ false = search rules in
    record {
      many = sym (many-workers ms) ∙ ap length e.workers ∙ c.in_ok-go.ensures.same.many ∙ many-workers c.loop.places.items ∙ h.many;
      owned = search rules;
      idle = c.go.ensures.idle;
      some = some-of (length c.loop.places.items) (length ms) (length (workers_of c.loop.places.items)) (length (workers_of ms)) h.some (many-workers c.loop.places.items) (many-workers ms)
          (ap length e.workers ∙ c.in_ok-go.ensures.same.many);
      team = λ f t.
          let gone = c.in_ok-go.ensures.gone f (h.team f t) in
          let crew = e.crew code f gone.crew in
          let seen : seen_among ms ≡ seen_among ks = crew.1 in
          let run = crew-running z o code f ms crew.0 in
          let mv = e.no off in
          record {
            crew = crew.0;
            goes = goes-on o code f (seen_among ms) (workers_of ms) mv.0 (subst NoneStops (sym e.workers) quiet)
                (λ i d lt. let a = run.tasks i d lt in (a.kept, a.thread)) mv.1
                (subst (λ l. GoneByRounds o f l (workers_of ms)) (sym seen) (subst (GoneByRounds o f (seen_among ks)) (sym e.workers) gone.gone));
          };
      same = same-trans (workers_of c.args.places.now.items) (workers_of ks) (workers_of ms)
          (same-trans (workers_of c.args.places.now.items) (workers_of c.loop.places.items) (workers_of ks) h.same c.in_ok-go.ensures.same)
          (subst (Rattle.upc_rounds_teams.specs.layer.Runs.AreSame (workers_of ks)) (sym e.workers) (same-refl (workers_of ks)));
    }

pub returns-then-is_some-clause-over : goal.returns-then-is_some-clause-over
returns-then-is_some-clause-over g c = λ f t.
    let z = id_of c.args.cell.now in let o = (started c.args.cell.now).0 in let code = c.args.code.now in let h = c.loop.invariant in
    let ks = c.go.new.places.items in
    let yes : is_some c.stopped.result ≡ true = search rules in
    let u = match-some c.stopped.result (NoneStops (workers_of ks)) (StopsAt (workers_of ks)) yes (stopped-in c.stopped.result ks _ c.stopped.ensures (search rules)) in
    let gone = c.in_ok-go.ensures.gone f (h.team f t) in
    let some = some-of (length c.loop.places.items) (length ks) (length (workers_of c.loop.places.items)) (length (workers_of ks)) h.some (many-workers c.loop.places.items) (many-workers ks) c.in_ok-go.ensures.same.many in
    done-halted z o code f ks c.halt_all.new.places.items some c.halt_all.ensures.seats gone.crew u.0 c.in_ok-go.ensures.rested u.1 c.halt_all.ensures.workers

pub returns-then-is_some-clause-rounds : goal.returns-then-is_some-clause-rounds
returns-then-is_some-clause-rounds g c = λ f t.
    let z = id_of c.args.cell.now in let o = (started c.args.cell.now).0 in let code = c.args.code.now in let h = c.loop.invariant in
    let ks = c.go.new.places.items in
    let gone = c.in_ok-go.ensures.gone f (h.team f t) in let e = c.halt_all.ensures.workers in
    let some = some-of (length c.loop.places.items) (length ks) (length (workers_of c.loop.places.items)) (length (workers_of ks)) h.some (many-workers c.loop.places.items) (many-workers ks) c.in_ok-go.ensures.same.many in
    ended-gone z o code f ks c.halt_all.new.places.items some c.halt_all.ensures.seats gone.crew e.many (ends-halted (workers_of ks) (workers_of c.halt_all.new.places.items) e) gone.gone

pub returns-then-is_some-clause-same : goal.returns-then-is_some-clause-same
returns-then-is_some-clause-same g c =
    let z = id_of c.args.cell.now in let o = (started c.args.cell.now).0 in let code = c.args.code.now in let h = c.loop.invariant in
    let ks = c.go.new.places.items in
    same-trans (workers_of c.args.places.now.items) (workers_of ks) (workers_of c.halt_all.new.places.items)
    (same-trans (workers_of c.args.places.now.items) (workers_of c.loop.places.items) (workers_of ks) h.same c.in_ok-go.ensures.same)
    (same-halted (workers_of ks) (workers_of c.halt_all.new.places.items) c.halt_all.ensures.workers)

pub returns-then-all_ended-clause-over : goal.returns-then-all_ended-clause-over
returns-then-all_ended-clause-over g c = λ f t.
    let z = id_of c.args.cell.now in let o = (started c.args.cell.now).0 in let code = c.args.code.now in let h = c.loop.invariant in
    let ks = c.go.new.places.items in
    let some = some-of (length c.loop.places.items) (length ks) (length (workers_of c.loop.places.items)) (length (workers_of ks)) h.some (many-workers c.loop.places.items) (many-workers ks) c.in_ok-go.ensures.same.many in
    done-ended z o code f ks some (c.in_ok-go.ensures.gone f (h.team f t)).crew (ended-in ks _ (c.all_ended.ensures c.if-all_ended.true) (search rules))

pub returns-then-all_ended-clause-rounds : goal.returns-then-all_ended-clause-rounds
returns-then-all_ended-clause-rounds g c = λ f t.
    let z = id_of c.args.cell.now in let o = (started c.args.cell.now).0 in let code = c.args.code.now in let h = c.loop.invariant in
    let ks = c.go.new.places.items in
    let gone = c.in_ok-go.ensures.gone f (h.team f t) in
    let some = some-of (length c.loop.places.items) (length ks) (length (workers_of c.loop.places.items)) (length (workers_of ks)) h.some (many-workers c.loop.places.items) (many-workers ks) c.in_ok-go.ensures.same.many in
    ended-gone z o code f ks ks some (seats-self ks) gone.crew refl (λ i d lt. ended-self (get_or (workers_of ks) i d) (ended-in ks _ (c.all_ended.ensures c.if-all_ended.true) (search rules) i d lt)) gone.gone

pub returns-then-all_ended-clause-same : goal.returns-then-all_ended-clause-same
returns-then-all_ended-clause-same g c =
    same-trans (workers_of c.args.places.now.items) (workers_of c.loop.places.items) (workers_of c.go.new.places.items) c.loop.invariant.same c.in_ok-go.ensures.same

pub returns-then-none-clause-over : goal.returns-then-none-clause-over
returns-then-none-clause-over g c = λ f t.
    let z = id_of c.args.cell.now in let o = (started c.args.cell.now).0 in let code = c.args.code.now in let h = c.loop.invariant in
    let ks = c.go.new.places.items in
    let ms = c.none_goes.new.places.items in let e = c.in_ok-none.ensures in
    let no : is_some c.stopped.result ≡ false = search rules in
    let quiet : NoneStops (workers_of ks) = match-none c.stopped.result (NoneStops (workers_of ks)) (StopsAt (workers_of ks)) no (stopped-in c.stopped.result ks _ c.stopped.ensures (search rules)) in
    let crew = e.crew code f (c.in_ok-go.ensures.gone f (h.team f t)).crew in
    let some = some-of (length c.loop.places.items) (length ms) (length (workers_of c.loop.places.items)) (length (workers_of ms)) h.some (many-workers c.loop.places.items) (many-workers ms)
    (ap length e.workers ∙ c.in_ok-go.ensures.same.many) in
    done-locked z o code f ms c.lock_all.new.places.items some c.in_ok-lock_all.ensures.seats crew.0 (e.yes (search rules)) (subst NoneStops (sym e.workers) quiet) c.in_ok-lock_all.ensures.workers

pub returns-then-none-clause-rounds : goal.returns-then-none-clause-rounds
returns-then-none-clause-rounds g c = λ f t.
    let z = id_of c.args.cell.now in let o = (started c.args.cell.now).0 in let code = c.args.code.now in let h = c.loop.invariant in
    let ks = c.go.new.places.items in
    let ms = c.none_goes.new.places.items in let e = c.in_ok-none.ensures in
    let gone = c.in_ok-go.ensures.gone f (h.team f t) in let crew = e.crew code f gone.crew in
    let some = some-of (length c.loop.places.items) (length ms) (length (workers_of c.loop.places.items)) (length (workers_of ms)) h.some (many-workers c.loop.places.items) (many-workers ms)
    (ap length e.workers ∙ c.in_ok-go.ensures.same.many) in
    let w = c.in_ok-lock_all.ensures.workers in
    let want : Numbered (λ i k. k.«end» ≡ None → Wanting o (seen_among ms) k) (workers_of ms) = e.yes (search rules) in
    ended-gone z o code f ms c.lock_all.new.places.items some c.in_ok-lock_all.ensures.seats crew.0 w.many
    (ends-locked o (seen_among ms) (workers_of ms) (workers_of c.lock_all.new.places.items) want w)
    (subst (λ l. GoneByRounds o f l (workers_of ms)) (sym crew.1) (subst (GoneByRounds o f (seen_among ks)) (sym e.workers) gone.gone))

pub returns-then-none-clause-same : goal.returns-then-none-clause-same
returns-then-none-clause-same g c =
    let z = id_of c.args.cell.now in let o = (started c.args.cell.now).0 in let code = c.args.code.now in let h = c.loop.invariant in
    let ks = c.go.new.places.items in
    let ms = c.none_goes.new.places.items in let e = c.in_ok-none.ensures in
    let want : Numbered (λ i k. k.«end» ≡ None → Wanting o (seen_among ms) k) (workers_of ms) = e.yes (search rules) in
    same-trans (workers_of c.args.places.now.items) (workers_of ks) (workers_of c.lock_all.new.places.items)
    (same-trans (workers_of c.args.places.now.items) (workers_of c.loop.places.items) (workers_of ks) h.same c.in_ok-go.ensures.same)
    (subst (λ ws. Rattle.upc_rounds_teams.specs.layer.Runs.AreSame ws (workers_of c.lock_all.new.places.items)) e.workers
    (same-locked o (seen_among ms) (workers_of ms) (workers_of c.lock_all.new.places.items) want c.in_ok-lock_all.ensures.workers))
