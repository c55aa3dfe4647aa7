use Rattle.std.proofs.Common.{rules, ◌≡◌, ◌<◌, ℕ, None, is_some, true, false, length, sym, ap, subst, ◌∙◌, inr, get_or}
use Rattle.std.specs.Prelude.{slice_index_or}
use Rattle.turn_cell.specs.layer.Seats.{id_of, started}
use Rattle.upc_values.specs.Lists.{Numbered}
use Rattle.upc_values.specs.History.{reply}
use Rattle.upc_values.specs.Records.{last_item, is_stall}
use Rattle.upc_task.specs.layer.Kept.{Worker}
use Rattle.upc_task.proofs.Options.{match-some, match-none}
use Rattle.upc_rounds_teams.specs.declared.place.Place.{Place}
use Rattle.upc_rounds_teams.specs.layer.Runs.{Wanting, Moving}
use Rattle.upc_rounds_teams.specs.layer.Teams.{InVain, IsAllowed, workers_of, seen_at, seen_among}
use Rattle.upc_rounds_teams.proofs.Crews.{some-place, worker-at, many-workers, numbered-workers, again-workers, again-crew, asked-whole}
use Rattle.upc_rounds_teams.proofs.ends.none_may_go.Goals as goal

pub meet_all-requires-clause-some : goal.meet_all-requires-clause-some
meet_all-requires-clause-some g c = subst (λ n. 0 < n) (sym c.in_ok-found.ensures.met.many) c.requires.some

pub meet_all-requires-clause-cell : goal.meet_all-requires-clause-cell
meet_all-requires-clause-cell g c = λ i d lt. let r = c.requires.goes in (c.in_ok-found.ensures.kept r.0 r.1.0 r.1.1 i d lt).cell

pub returns-then-is_some-clause-workers : goal.returns-then-is_some-clause-workers
returns-then-is_some-clause-workers g c =
    again-workers c.args.places.now c.first_to_go.new.places c.meet_all.new.places c.requires.some c.in_ok-found.ensures.met c.meet_all.ensures

pub returns-clause-workers : goal.returns-clause-workers
returns-clause-workers g c =
    again-workers c.args.places.now c.first_to_go.new.places c.meet_all.new.places c.requires.some c.in_ok-found.ensures.met c.meet_all.ensures

pub returns-then-is_some-clause-crew : goal.returns-then-is_some-clause-crew
returns-then-is_some-clause-crew g c = λ p f t.
    again-crew c.args.places.now c.first_to_go.new.places c.meet_all.new.places c.requires.some c.in_ok-found.ensures.met c.meet_all.ensures
    (id_of c.args.cell.now) (started c.args.cell.now).0 p f (c.in_ok-found.ensures.kept p f t) t

pub returns-clause-crew : goal.returns-clause-crew
returns-clause-crew g c = λ p f t.
    again-crew c.args.places.now c.first_to_go.new.places c.meet_all.new.places c.requires.some c.in_ok-found.ensures.met c.meet_all.ensures
    (id_of c.args.cell.now) (started c.args.cell.now).0 p f (c.in_ok-found.ensures.kept p f t) t

pub returns-clause-yes : goal.returns-clause-yes
returns-clause-yes g c = λ yes.
    let r = c.requires.goes in let o = (started c.args.cell.now).0 in let ks = c.args.places.now in let ms = c.first_to_go.new.places in let ns = c.meet_all.new.places in
    let e = c.in_ok-found.ensures in
    let no : is_some c.in_ok-found.found ≡ false = search rules in
    let vain : Numbered (λ i k. InVain o k) ms = match-none c.in_ok-found.found (Numbered (λ i k. InVain o k) ms)
    (λ at. (at < length ms) × ((d : Place) → IsAllowed o (slice_index_or ms at d))) no e.answer in
    subst (λ ws. Numbered (λ i k. k.«end» ≡ None → Wanting o (seen_among ns) k) ws) (workers-back ks ms ns c.requires.some e.met c.meet_all.ensures)
    (numbered-workers (λ i k. k.«end» ≡ None → Wanting o (seen_among ns) k) ms (λ i d lt q.
    subst (λ l. Wanting o l (get_or ms i d).task.worker)
    (asked-whole ks ms ns c.requires.some e.met c.meet_all.ensures (id_of c.args.cell.now) o r.0 r.1.0 (e.kept r.0 r.1.0 r.1.1) r.1.1 i d lt)
    (vain i d lt q)))
  where
    workers-back : (ks ms ns : Rattle.std.proofs.Common.List Place) → 0 < length ks → Rattle.upc_rounds_teams.specs.layer.Teams.AreMet ks ms → Rattle.upc_rounds_teams.specs.layer.Teams.HaveMet ms ns → workers_of ms ≡ workers_of ns
    workers-back ks ms ns some asked met = sym (Rattle.upc_rounds_teams.proofs.Crews.workers-same ms ns met.many (λ i d lt. (met.each i d lt).worker))

pub returns-then-is_some-clause-no : goal.returns-then-is_some-clause-no
returns-then-is_some-clause-no g c = λ off.
    let r = c.requires.goes in let o = (started c.args.cell.now).0 in let ks = c.args.places.now in let ms = c.first_to_go.new.places in let ns = c.meet_all.new.places in
    let e = c.in_ok-found.ensures in
    let yes : is_some c.in_ok-found.found ≡ true = search rules in
    let u = match-some c.in_ok-found.found (Numbered (λ i k. InVain o k) ms)
    (λ at. (at < length ms) × ((d : Place) → IsAllowed o (slice_index_or ms at d))) yes e.answer in
    let at = u.0 in let lt = u.1.0 in let d = some-place ms at lt in let m = get_or ms at d in let a = u.1.1 d in
    let lk : at < length ks = subst (λ n. at < n) e.met.many lt in
    let ln : at < length ns = subst (λ n. at < n) (sym c.meet_all.ensures.many) lt in
    let is : (w : Worker) → get_or (workers_of ns) at w ≡ m.task.worker = λ w. worker-at ns at d w ln ∙ (c.meet_all.ensures.each at d lt).worker in
    let seen : seen_at m ≡ seen_among ns =
    asked-whole ks ms ns c.requires.some e.met c.meet_all.ensures (id_of c.args.cell.now) o r.0 r.1.0 (e.kept r.0 r.1.0 r.1.1) r.1.1 at d lt in
    let stall : is_stall (last_item m.task.worker.items.items) ≡ true =
    ap (λ (w : Worker). is_stall (last_item w.items.items)) (e.met.each at d lk).worker
    ∙ c.requires.stand at d lk (ap (λ (w : Worker). w.«end») (sym (e.met.each at d lk).worker) ∙ a.opened) in
    let moving : Moving o (seen_among ns) (workers_of ns) at = record {
      within = subst (λ n. at < n) (sym (many-workers ns)) ln;
      opened = λ w. ap (λ (k : Worker). k.«end») (is w) ∙ a.opened;
      goes = λ w. inr (
        ap (λ (k : Worker). is_stall (last_item k.items.items)) (is w) ∙ stall,
        a.action,
        ap (λ (k : Worker). k.wish) (is w) ∙ a.wish_is,
        subst (λ (k : Worker). is_some (reply o (seen_among ns) k.thread a.action) ≡ true) (sym (is w))
            (subst (λ l. is_some (reply o l m.task.worker.thread a.action) ≡ true) seen a.legal),
      );
    } in
    (at, moving)
