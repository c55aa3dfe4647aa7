-- A whole run, from its beginning to its journal.
use Rattle.std.proofs.Common.{◌≡◌, ℕ, ◌<◌, true, List, [], map, length, None, is_some, refl, sym, ap, subst, ◌∙◌, get_or}
use Rattle.turn_cell.specs.layer.Seats.{TableId}
use Rattle.upc_values.specs.declared.journal.Entry.{Entry}
use Rattle.upc_values.specs.declared.journal.Journal.{Journal}
use Rattle.upc_values.specs.Lists.{Numbered}
use Rattle.upc_values.specs.Openings.{Opening}
use Rattle.upc_values.specs.History.{IsLegal, EachBelow}
use Rattle.upc_values.specs.Formed.{AreWellFormed}
use Rattle.upc_values.specs.Sound.{IsSound}
use Rattle.stack_code.specs.layer.Codes.{Codes}
use Rattle.upc_task.specs.layer.Kept.{Worker}
use Rattle.upc_task.specs.declared.limits.Limits.{Limits}
use Rattle.upc_task.specs.layer.Sources.{Outcomes}
use Rattle.upc_task.specs.layer.Kept.{IsKept, strand_of}
use Rattle.upc_rounds_teams.specs.declared.place.Place.{Place}
use Rattle.upc_rounds_teams.specs.Rounds.{EndsInTime}
use Rattle.upc_rounds_teams.specs.layer.Runs.{AreSame, IsAt, standing_of}
use Rattle.upc_rounds_teams.specs.layer.Teams.{IsCrew, IsTeam, IsDone, HasEnded, workers_of, seen_at, seen_among}
use Rattle.upc_rounds.proofs.Running.{over-sound}
use Rattle.upc_rounds_teams.proofs.Crews.{worker-at, many-workers}
use Rattle.upc_rounds_teams.proofs.Rounding.{gone-start}
use Rattle.upc_rounds.proofs.Timing.{gone-in-time}

-- Tasks that have done nothing are a team before its first round.
pub begun-team : (z : TableId) (o : Opening) (c : Codes) (f : Outcomes) (ks : List Place) → IsCrew z o c f ks × (seen_among ks ≡ [])
    → Numbered (λ i k. standing_of k ≡ record { items = []; «end» = None }) (workers_of ks) → IsTeam z o c f ks
begun-team z o c f ks h fresh = record {
  crew = h.0;
  goes = subst (λ s. Rattle.upc_rounds_teams.specs.layer.Played.GoesByRounds o f s (workers_of ks)) (sym h.1)
      (gone-start o f (workers_of ks) (λ i d lt. (ap (λ s. s.items) (fresh i d lt), ap (λ s. s.«end») (fresh i d lt))));
}

module _ (z : TableId) (o : Opening) (c : Codes) (f : Outcomes) (ks : List Place) (h : IsDone z o c f ks) where
  at-place : (i : ℕ) (d : Place) → i < length ks → IsAt o c f (seen_among ks) i (get_or ks i d).task.worker
  at-place i d lt =
      let lw : i < length (workers_of ks) = subst (λ n. i < n) (sym (many-workers ks)) lt in
      subst (IsAt o c f (seen_among ks) i) (worker-at ks i d d.task.worker lt) (h.over.tasks i d.task.worker lw)

  pub done-kept : Numbered (λ i k. IsKept o c f (seen_at k) k.task.worker) ks
  done-kept = λ i d lt.
      subst (λ l. IsKept o c f l (get_or ks i d).task.worker) (sym (h.seats i d lt).seen_is) (at-place i d lt).kept

  pub done-is-ended : Numbered (λ i k. is_some k.task.worker.«end» ≡ true) ks
  done-is-ended = λ i d lt.
      let lw : i < length (workers_of ks) = subst (λ n. i < n) (sym (many-workers ks)) lt in
      subst (λ (k : Worker). is_some k.«end» ≡ true) (worker-at ks i d d.task.worker lt) (h.over.ended i d.task.worker lw)

abbrev pub journal_with : Limits → List Rattle.upc_values.specs.declared.journal.Strand.Strand → List Entry → Journal
journal_with l strands history = record { threads = l.threads; budget = l.budget; actions = l.actions; strands = strands; history = history }

-- Its journal is sound.
pub done-sound : (z : TableId) (o : Opening) (c : Codes) (all : ℕ → Outcomes) (l : Limits) (ks ms : List Place) (strands : List Rattle.upc_values.specs.declared.journal.Strand.Strand) (history : List Entry)
    → IsDone z o c (all l.budget) ms → history ≡ seen_among ms → strands ≡ map (strand_of (all l.budget)) (workers_of ms) → l.threads ≡ o.threads
    → IsLegal o history → AreWellFormed o history → EachBelow o.threads history → AreSame (workers_of ks) (workers_of ms) → Numbered (λ i k. k.limits ≡ l) (workers_of ks)
    → IsSound o all (journal_with l strands history)
done-sound z o c all l ks ms strands history h is made threads legal formed below same limits =
    over-sound o c all l (workers_of ks) (workers_of ms) (journal_with l strands history)
    (subst (λ s. Rattle.upc_rounds_teams.specs.layer.Runs.IsOver o c (all l.budget) s (workers_of ms)) (sym is) h.over) legal formed below same limits threads refl refl made

-- And it ends in time.
pub done-in-time : (z : TableId) (o : Opening) (c : Codes) (all : ℕ → Outcomes) (l : Limits) (ks ms : List Place) (strands : List Rattle.upc_values.specs.declared.journal.Strand.Strand) (history : List Entry)
    → IsDone z o c (all l.budget) ms → HasEnded o (all l.budget) ms → history ≡ seen_among ms → strands ≡ map (strand_of (all l.budget)) (workers_of ms)
    → AreSame (workers_of ks) (workers_of ms) → Numbered (λ i k. k.limits ≡ l) (workers_of ks) → EndsInTime o all (journal_with l strands history)
done-in-time z o c all l ks ms strands history h e is made same limits =
    subst (λ s. EndsInTime o all (journal_with l s history)) (sym made)
    (subst (λ es. EndsInTime o all (journal_with l (map (strand_of (all l.budget)) (workers_of ms)) es)) (sym is)
    (gone-in-time o all l.budget l.threads l.actions e.last (workers_of ms) (seen_among ms) e.many e.ends
    (λ i d lt. let lm : i < length (workers_of ms) = subst (λ n. i < n) (sym e.many) lt in sym (e.ends i d lt).thread ∙ (h.over.tasks i d lm).thread)
    (λ i d lt.
    let lm : i < length (workers_of ms) = subst (λ n. i < n) (sym e.many) lt in
    let lk : i < length (workers_of ks) = subst (λ n. i < n) same.many lm in
    ap (λ y. y.actions) (sym (e.ends i d lt).limits ∙ (same.each i d lk).limits ∙ limits i d lk))
    e.gone))
