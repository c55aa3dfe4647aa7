use Rattle.std.proofs.Common.{ℕ, ◌<◌, ◌+◌, ◌≤◌, List, length, refl, sym, subst, ◌∙◌, arith, inl, inr}
use Rattle.std.specs.Prelude.{slice_index_or}
use Rattle.std.proofs.lemmas.Bool.{cases_eq}
use Rattle.turn_cell.specs.layer.Seats.{id_of, started}
use Rattle.upc_values.specs.declared.journal.Entry.{Entry}
use Rattle.upc_values.specs.Openings.{Opening}
use Rattle.upc_task.specs.layer.Kept.{Worker}
use Rattle.upc_rounds_teams.specs.layer.Course.{ToRest}
use Rattle.upc_rounds_teams.specs.layer.Runs.{Rested, GoesAt, standing_of}
use Rattle.upc_rounds_teams.specs.layer.Teams.{workers_of, seen_among}
use Rattle.upc_rounds.proofs.Running.{same-trans, same-refl}
use Rattle.upc_rounds.proofs.Standings.{grows-refl, stopped-of, stays-stopped, grows-trans, each-of, later-of}
use Rattle.upc_rounds_teams.proofs.Crews.{many-workers, crew-running}
use Rattle.upc_rounds_picks.proofs.turns.finish_all.Goals as goal

pub loop-at-init : goal.loop-at-init
loop-at-init g c =
    record {
      running = λ f run. run;
      same = same-refl (workers_of c.args.places.now);
      rested = λ i d lt. absurd (omega (arith, lt));
      done = λ i lt d. absurd (omega (arith, lt));
      left = λ i d le. refl;
      grows = grows-refl (seen_among c.args.places.now);
    }

pub loop-at-preserved : goal.loop-at-preserved
loop-at-preserved g c =
    let e = c.in_ok-finish.ensures in let h = c.loop-at.invariant in let ms = workers_of c.finish.new.places in let at = c.loop-at.at in
    let ks = workers_of c.args.places.now in let ls = workers_of c.loop-at.places in
    let rests : (i : ℕ) (d : Worker) → i < at + 1 → Rested (slice_index_or ms i d) = λ i d lt.
    elim (cases_eq i at) as (λ z. Rested (slice_index_or ms i d)) [
      | inl q ↦ subst (λ j. Rested (slice_index_or ms j d)) (sym q) (e.rested d)
      | inr ne ↦ subst Rested (sym (e.others i d ne)) (h.rested i d (omega arith))
    ] in
    let parts : (i : ℕ) → i < at + 1 → GoesAt ToRest i ks ms = λ i lt d.
    elim (cases_eq i at) as (λ z. ToRest (standing_of (slice_index_or ks i d)) (standing_of (slice_index_or ms i d))) [
      | inl q ↦ subst (λ j. ToRest (standing_of (slice_index_or ks j d)) (standing_of (slice_index_or ms j d))) (sym q)
          (subst (λ k. ToRest (standing_of k) (standing_of (slice_index_or ms at d))) (h.left at d (omega arith)) (e.part d))
      | inr ne ↦ subst (λ m. ToRest (standing_of (slice_index_or ks i d)) (standing_of m)) (sym (e.others i d ne)) (h.done i (omega arith) d)
    ] in
    record {
      running = λ f run. e.running f (h.running f run);
      same = same-trans ks ls ms h.same e.same;
      rested = rests;
      done = parts;
      left = λ i d le. e.others i d (λ q. omega (arith, q, le)) ∙ h.left i d (omega (arith, le));
      grows = grows-trans (seen_among c.args.places.now) (seen_among c.loop-at.places) (seen_among c.finish.new.places) h.grows e.grows;
    }

pub finish-requires-clause-running : goal.finish-requires-clause-running
finish-requires-clause-running g c = let r = c.requires.running in (r.0, c.loop-at.invariant.running r.0 r.1)

pub returns-clause-rest : goal.returns-clause-rest
returns-clause-rest g c =
    let h = c.loop-at.invariant in let r = c.requires.running in let o = (started c.args.cell.now).0 in
    let w : Opening × List Entry = (o, seen_among c.args.places.now) in let x : Opening × List Entry = (o, seen_among c.loop-at.places) in
    let ks = workers_of c.args.places.now in let ms = workers_of c.loop-at.places in
    let over : length ks ≤ c.loop-at.at =
    (let a = many-workers c.args.places.now in let b = h.same.many in let d = many-workers c.loop-at.places in let t = c.loop-at-test.false in let e = c.loop-at.auto.at-end in omega arith) in
    record {
      stopped = stopped-of w ks c.requires.stopped.0 c.requires.stopped.1;
      each = each-of ToRest w x ks ms h.same.many (λ i d lt. h.done i (omega (arith, lt, over)) d);
      later = later-of c.args.code.now r.0 w x ks ms
          (crew-running (id_of c.args.cell.now) o c.args.code.now r.0 c.loop-at.places (h.running r.0 r.1)) h.same.many h.grows;
    }

pub returns-clause-stopped : goal.returns-clause-stopped
returns-clause-stopped g c =
    let h = c.loop-at.invariant in let ks = workers_of c.args.places.now in let ms = workers_of c.loop-at.places in
    let over : length ks ≤ c.loop-at.at =
    (let a = many-workers c.args.places.now in let b = h.same.many in let d = many-workers c.loop-at.places in let t = c.loop-at-test.false in let e = c.loop-at.auto.at-end in omega arith) in
    let u = c.requires.stopped in
    (u.0, stays-stopped ks ms h.same.many (λ i d lt. h.done i (omega (arith, lt, over)) d) u.0 u.1)
