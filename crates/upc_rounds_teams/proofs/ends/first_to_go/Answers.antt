use Rattle.std.proofs.Common.{rules, ◌≡◌, ◌<◌, ◌≤◌, ◌+◌, ℕ, None, length, sym, ap, subst, ◌∙◌, arith, inl, inr, get_or, set, length-set, get_or-set_same, get_or-set_other}
use Rattle.std.proofs.lemmas.List.{get_or_default}
use Rattle.turn_cell.specs.layer.Seats.{id_of, started}
use Rattle.upc_task.specs.layer.Seated.{IsTask}
use Rattle.upc_rounds_teams.specs.declared.place.Place.{Place}
use Rattle.upc_rounds_teams.specs.layer.Teams.{Met, InVain, IsAllowed, seen_among}
use Rattle.upc_rounds_teams.proofs.Crews.{met-self}
use Rattle.upc_rounds_teams.proofs.Meetings.{set-at}
use Rattle.upc_rounds_teams.proofs.Rounding.{stalled-wish}
use Rattle.upc_rounds_teams.proofs.ends.first_to_go.Goals as goal

pub may_go-requires-clause-kept : goal.may_go-requires-clause-kept
may_go-requires-clause-kept g c =
    let h = c.loop-at.invariant in let r = c.requires.goes in
    let lt : c.loop-at.at < length c.loop-at.places = (let a = c.loop-at-test.true in let b = c.loop-at.auto.at-end in let m = h.many in omega arith) in
    (r.0, r.1.0, h.kept r.0 r.1.0 r.1.1 c.loop-at.at c.index-places-at.result lt)

pub may_go-requires-clause-wants : goal.may_go-requires-clause-wants
may_go-requires-clause-wants g c = λ q.
    let h = c.loop-at.invariant in let r = c.requires.goes in let t = c.loop-at.at in let x = c.index-places-at.result in
    let lt : t < length c.loop-at.places = (let a = c.loop-at-test.true in let b = c.loop-at.auto.at-end in let m = h.many in omega arith) in
    let lk : t < length c.args.places.now = subst (λ n. t < n) h.many lt in
    let k = get_or c.loop-at.places t x in
    let kept = (h.kept r.0 r.1.0 r.1.1 t x lt).kept in
    let was : k ≡ get_or c.args.places.now t x = h.left t x (omega arith) in
    stalled-wish (started c.args.cell.now).0 r.0 r.1.0 _ k.task.worker kept
    (subst (λ (n : Place). n.task.worker.«end» ≡ None → Rattle.upc_values.specs.Records.is_stall (Rattle.upc_values.specs.Records.last_item n.task.worker.items.items) ≡ Rattle.std.proofs.Common.true) (sym was) (c.requires.stand t x lk) q)

pub may_go-requires-clause-stands : goal.may_go-requires-clause-stands
may_go-requires-clause-stands g c =
    let h = c.loop-at.invariant in let t = c.loop-at.at in let x = c.index-places-at.result in
    let lt : t < length c.loop-at.places = (let a = c.loop-at-test.true in let b = c.loop-at.auto.at-end in let m = h.many in omega arith) in
    let lk : t < length c.args.places.now = subst (λ n. t < n) h.many lt in
    subst Rattle.upc_rounds_teams.specs.layer.Teams.Stands (sym (h.left t x (omega arith))) (c.requires.stand t x lk)

pub loop-at-init : goal.loop-at-init
loop-at-init g c = record {
  many = Rattle.std.proofs.Common.refl;
  met = λ i d lt. met-self (get_or c.args.places.now i d);
  kept = λ p f t i d lt. (t.members i d lt).kept;
  vain = λ i d lt. absurd (omega (arith, lt));
  left = λ i d le. Rattle.std.proofs.Common.refl;
}

pub loop-at-preserved : goal.loop-at-preserved
loop-at-preserved g c =
    let h = c.loop-at.invariant in let t = c.loop-at.at in let ls = c.loop-at.places in let ks = c.args.places.now in let x = get_or ls t c.index-places-at.result in
    let o = (started c.args.cell.now).0 in let z = id_of c.args.cell.now in let e = c.in_ok-goes.ensures in let m = c.may_go.new.place in
    let lt : t < length ls = (let a = c.loop-at-test.true in let b = c.loop-at.auto.at-end in let y = h.many in omega arith) in
    let lk : t < length ks = subst (λ n. t < n) h.many lt in
    let was : (d : Place) → x ≡ get_or ls t d = λ d. get_or_default ls t c.index-places-at.result d lt in
    record {
      many = length-set ls t m ∙ h.many;
      met = λ i d l. set-at (λ j n. Met (get_or ks j d) n) ls t i m d lt (λ ne. h.met i d l)
          (λ q. subst (λ k. Met k m) (was d ∙ h.left t d (omega arith)) e.met);
      kept = λ p f crew i d l.
          let ll : i < length ls = subst (λ n. i < n) (length-set ls t m) l in
          set-at (λ j n. IsTask z o p f n.task) ls t i m d lt (λ ne. h.kept p f crew i d ll) (λ q. e.kept p f (h.kept p f crew t c.index-places-at.result lt));
      vain = λ i d l. set-at (λ j n. InVain o n) ls t i m d lt (λ ne. h.vain i d (omega arith)) (λ q. e.no c.if-goes.false);
      left = λ i d le. set-at (λ j n. n ≡ get_or ks j d) ls t i m d lt (λ ne. h.left i d (omega arith)) (λ q. absurd (omega (arith, q, le)));
    }

pub returns-then-goes-clause-met : goal.returns-then-goes-clause-met
returns-then-goes-clause-met g c =
    let h = c.loop-at.invariant in let t = c.loop-at.at in let ls = c.loop-at.places in let ks = c.args.places.now in let x = get_or ls t c.index-places-at.result in
    let e = c.in_ok-goes.ensures in let m = c.may_go.new.place in
    let lt : t < length ls = (let a = c.loop-at-test.true in let b = c.loop-at.auto.at-end in let y = h.many in omega arith) in
    let was : (d : Place) → x ≡ get_or ls t d = λ d. get_or_default ls t c.index-places-at.result d lt in
    record {
      many = length-set ls t m ∙ h.many;
      each = λ i d l. set-at (λ j n. Met (get_or ks j d) n) ls t i m d lt (λ ne. h.met i d l)
          (λ q. subst (λ k. Met k m) (was d ∙ h.left t d (omega arith)) e.met);
    }

pub returns-then-goes-clause-kept : goal.returns-then-goes-clause-kept
returns-then-goes-clause-kept g c = λ p f crew i d l.
    let h = c.loop-at.invariant in let t = c.loop-at.at in let ls = c.loop-at.places in
    let e = c.in_ok-goes.ensures in let m = c.may_go.new.place in
    let lt : t < length ls = (let a = c.loop-at-test.true in let b = c.loop-at.auto.at-end in let y = h.many in omega arith) in
    let ll : i < length ls = subst (λ n. i < n) (length-set ls t m) l in
    set-at (λ j n. IsTask (id_of c.args.cell.now) (started c.args.cell.now).0 p f n.task) ls t i m d lt (λ ne. h.kept p f crew i d ll)
    (λ q. e.kept p f (h.kept p f crew t c.index-places-at.result lt))

pub returns-then-goes-clause-answer : goal.returns-then-goes-clause-answer
returns-then-goes-clause-answer g c =
    let h = c.loop-at.invariant in let t = c.loop-at.at in let ls = c.loop-at.places in let e = c.in_ok-goes.ensures in let m = c.may_go.new.place in
    let lt : t < length ls = (let a = c.loop-at-test.true in let b = c.loop-at.auto.at-end in let y = h.many in omega arith) in (
      subst (λ n. t < n) (sym (length-set ls t m)) lt,
      λ d. subst (IsAllowed (started c.args.cell.now).0) (sym (get_or-set_same ls t m d lt)) (e.yes c.if-goes.true),
    )

pub returns-clause-answer : goal.returns-clause-answer
returns-clause-answer g c = λ i d lt.
    let h = c.loop-at.invariant in let t = c.loop-at-test.false in let e = c.loop-at.auto.at-end in let m = h.many in h.vain i d (omega (arith, lt, t, e, m))
