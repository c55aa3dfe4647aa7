-- One task of a crew has gone on, and all have met.
use Rattle.std.proofs.Common.{◌≡◌, ℕ, ◌<◌, ◌≤◌, nat_lt, List, length, sym, ap, subst, ◌∙◌, arith, inl, inr, get_or, set, length-set, get_or-set_same, get_or-set_other}
use Rattle.std.proofs.lemmas.Bool.{cases_Bool, cases_eq, ltb-true, ltb-false}
use Rattle.std.proofs.lemmas.List.{get_or_past}
use Rattle.turn_cell.specs.layer.Seats.{TableId}
use Rattle.upc_values.specs.Openings.{Opening}
use Rattle.stack_code.specs.layer.Codes.{Codes}
use Rattle.upc_task.specs.layer.Kept.{Worker}
use Rattle.upc_rounds_teams.specs.declared.place.Place.{Place}
use Rattle.upc_rounds_teams.specs.layer.Course.{Standing, Grows}
use Rattle.upc_rounds_teams.specs.layer.Runs.{AreSame, OthersStay, GoesAt, standing_of}
use Rattle.upc_rounds_teams.specs.layer.Places.{Moved}
use Rattle.upc_rounds_teams.specs.layer.Teams.{GoesOn, StaysCrew, AreOf, HaveMet, workers_of, seen_among}
use Rattle.upc_rounds_teams.proofs.Crews.{some-place, worker-at, many-workers, moved-self, crew-goes, crew-grows, grows-of}
use Rattle.upc_rounds.proofs.Teams.{moved-same}

module _ (z : TableId) (o : Opening) (c : Codes) (ks : List Place) (at : ℕ) (k m : Place) (lt : at < length ks)
    (was : (d : Place) → k ≡ get_or ks at d) (moved : Moved z o c k.task m.task) where
  moved-set : (i : ℕ) (d : Place) → i < length ks → Moved z o c (get_or ks i d).task (get_or (set ks at m) i d).task
  moved-set i d l = elim (cases_eq i at) as (λ y. Moved z o c (get_or ks i d).task (get_or (set ks at m) i d).task) [
    | inl e ↦ subst (λ j. Moved z o c (get_or ks j d).task (get_or (set ks at m) j d).task) (sym e)
        (subst (λ n. Moved z o c n.task (get_or (set ks at m) at d).task) (was d)
        (subst (λ n. Moved z o c k.task n.task) (sym (get_or-set_same ks at m d lt)) moved))
    | inr ne ↦ subst (λ n. Moved z o c (get_or ks i d).task n.task) (sym (get_or-set_other ks at i m d ne)) (moved-self z o c (get_or ks i d).task)
  ]

  some : 0 < length ks
  some = omega (arith, lt)

  -- They may meet.
  pub turned-cells : GoesOn z o c ks → AreOf z (set ks at m)
  turned-cells t = λ i d l.
      let ll : i < length ks = subst (λ n. i < n) (length-set ks at m) l in
      ((moved-set i d ll).fine t.0 (t.1.members i d ll).kept).cell

  module _ (ns : List Place) (met : HaveMet (set ks at m) ns) where
    many : length ns ≡ length ks
    many = met.many ∙ length-set ks at m

    pub turned-crew : StaysCrew z o c ks ns
    turned-crew = λ f t. crew-goes z o c f ks (set ks at m) ns some (length-set ks at m) moved-set met t

    pub turned-grows : Grows (seen_among ks) (seen_among ns)
    turned-grows = grows-of (seen_among ks) (seen_among ns) (crew-grows z o c ks (set ks at m) ns some (length-set ks at m) moved-set met)

    pub turned-same : AreSame (workers_of ks) (workers_of ns)
    turned-same = moved-same z o c ks (set ks at m) ns (length-set ks at m) moved-set met

    met-worker : (i : ℕ) (d : Place) → i < length ks → (get_or ns i d).task.worker ≡ (get_or (set ks at m) i d).task.worker
    met-worker i d l = (met.each i d (subst (λ n. i < n) (sym (length-set ks at m)) l)).worker

    -- The worker that went on.
    pub turned-worker : (w : Worker) → get_or (workers_of ns) at w ≡ m.task.worker
    turned-worker w =
        worker-at ns at k w (subst (λ n. at < n) (sym many) lt) ∙ met-worker at k lt ∙ ap (λ n. n.task.worker) (get_or-set_same ks at m k lt)

    old-worker : (w : Worker) → get_or (workers_of ks) at w ≡ k.task.worker
    old-worker w = worker-at ks at k w lt ∙ ap (λ n. n.task.worker) (sym (was k))

    pub turned-goes : (R : Standing → Standing → Type 0) → R (standing_of k.task.worker) (standing_of m.task.worker)
        → GoesAt R at (workers_of ks) (workers_of ns)
    turned-goes R h = λ w.
        subst (λ n. R (standing_of n) (standing_of (get_or (workers_of ns) at w))) (sym (old-worker w))
        (subst (λ n. R (standing_of k.task.worker) (standing_of n)) (sym (turned-worker w)) h)

    pub turned-others : OthersStay at (workers_of ks) (workers_of ns)
    turned-others = λ j w ne. elim (cases_Bool (nat_lt j (length ks))) [
      | inl q ↦
          let l : j < length ks = ltb-true j (length ks) q in let d = some-place ks j l in
          worker-at ns j d w (subst (λ n. j < n) (sym many) l) ∙ met-worker j d l
          ∙ ap (λ n. n.task.worker) (get_or-set_other ks at j m d ne) ∙ sym (worker-at ks j d w l)
      | inr q ↦
          let g : length ks ≤ j = ltb-false j (length ks) q in
          let a = many-workers ks in let b = many-workers ns in let e = many in
          get_or_past (workers_of ns) j w (omega (arith, g, b, e)) ∙ sym (get_or_past (workers_of ks) j w (omega (arith, g, a)))
    ]
