-- A round of all and their meetings.
use Rattle.std.proofs.Common.{◌≡◌, ℕ, ◌<◌, false, List, [], ◌++◌, length, is_some, sym, ap, subst, ◌∙◌, inl, inr, get_or}
use Rattle.std.proofs.lemmas.Bool.{false≢true}
use Rattle.std.proofs.lemmas.List.{append_cancel_left}
use mathlib.Core.List.{IsPrefix}
use Rattle.turn_cell.specs.layer.Seats.{TableId, number_of}
use Rattle.upc_values.specs.declared.journal.Entry.{Entry}
use Rattle.upc_values.specs.Lists.{Numbered}
use Rattle.upc_values.specs.Openings.{Opening}
use Rattle.upc_values.specs.Drain.{entries_of}
use Rattle.stack_code.specs.layer.Codes.{Codes}
use Rattle.upc_task.specs.layer.Sources.{Outcomes}
use Rattle.upc_task.specs.layer.Kept.{IsKept, IsSame}
use Rattle.upc_task.specs.layer.Seated.{IsTask}
use Rattle.upc_task.proofs.Seen.{unseen-none}
use Rattle.upc_rounds_teams.specs.declared.place.Place.{Place}
use Rattle.upc_rounds_teams.specs.layer.Runs.{AreSame, Rested}
use Rattle.upc_rounds_teams.specs.layer.Played.{Acted, Played, GoneByRounds}
use Rattle.upc_rounds_teams.specs.layer.Places.{Moved, Did}
use Rattle.upc_rounds_teams.specs.layer.Teams.{worker_of, workers_of, seen_at, seen_among, Met, HaveMet, IsMember, IsTeam, HasGone}
use Rattle.upc_rounds_teams.proofs.Rounding.{played-seen, played-over, gone-round}
use Rattle.upc_rounds_teams.proofs.Crews.{some-place, numbered-workers, both-workers, many-workers, same-workers, among-at, own-stays, moved-self, crew-goes, crew-grows, crew-running}

-- What a part in a round makes of a task.
pub moved-did : (z : TableId) (o : Opening) (c : Codes) (k m : Place) → Did z o c k m → m.failed ≡ false → Moved z o c k.task m.task
moved-did z o c k m did fine = elim (did.did fine) [
  | inl a ↦ a.1.moved
  | inr b ↦ subst (λ n. Moved z o c k.task n.task) (sym b.1) (moved-self z o c k.task)
]

pub rested-did : (z : TableId) (o : Opening) (c : Codes) (k m : Place) → Did z o c k m → m.failed ≡ false → Rested m.task.worker
rested-did z o c k m did fine = elim (did.did fine) [
  | inl a ↦ a.1.rested
  | inr b ↦ λ q. absurd (false≢true (sym (ap is_some q) ∙ ap (λ n. is_some n.task.worker.«end») b.1 ∙ b.0))
]

-- The entries that a thread had not seen when its part was over are none of its own.
met-none : (z : TableId) (o : Opening) (c : Codes) (f : Outcomes) (i : ℕ) (k m : Place) → Met k m → IsTask z o c f k.task → k.task.worker.thread ≡ i
    → (b : IsPrefix (seen_at k) (seen_at m)) → entries_of i b.0 ≡ []
met-none z o c f i k m h t thread b =
    subst (λ j. entries_of j b.0 ≡ []) (t.number ∙ thread) (unseen-none (number_of k.task.seat) (seen_at k) (seen_at m) b (own-stays k m h))

-- A member of the team before the round, after its part, and after the meetings.
member-plays : (z : TableId) (o : Opening) (c : Codes) (f : Outcomes) (i : ℕ) (seen all part : List Entry) (k m n : Place) → all ≡ seen ++ part
    → IsMember z o c f seen i k → Did z o c k m → m.failed ≡ false → Met m n → seen_at n ≡ all
    → Played o f i seen part k.task.worker n.task.worker
member-plays z o c f i seen all part k m n is h did fine met whole =
    let mv = moved-did z o c k m did fine in let t = mv.fine f h.kept in
    let thread : m.task.worker.thread ≡ i = mv.same.thread ∙ h.thread in
    let none : entries_of i met.seen.0 ≡ [] = met-none z o c f i m n met t thread met.seen in
    let cut : seen ++ part ≡ seen_at m ++ met.seen.0 = sym is ∙ sym whole ∙ sym met.seen.1 in
    let go : Played o f i seen part k.task.worker m.task.worker = elim (did.did fine) [
      | inl a ↦
          let acted : Acted o f i seen (seen_at m) k.task.worker m.task.worker =
          subst (λ l. Acted o f i l (seen_at m) k.task.worker m.task.worker) h.seen_is
          (subst (λ j. Acted o f j (seen_at k) (seen_at m) k.task.worker m.task.worker) h.thread (a.1.acted f h.kept)) in
          played-seen o c f i seen part (seen_at m) met.seen.0 k.task.worker m.task.worker cut none a.0 thread t.kept mv.same a.1.takes a.1.full acted
      | inr b ↦
          let same : seen_at m ≡ seen = ap seen_at b.1 ∙ h.seen_is in
          let rest : part ≡ met.seen.0 = append_cancel_left seen part met.seen.0 (cut ∙ ap (λ l. l ++ met.seen.0) same) in
          played-over o f i seen part k.task.worker m.task.worker b.0 (ap worker_of b.1) (ap (entries_of i) rest ∙ none)
    ] in
    subst (λ w. Played o f i seen part k.task.worker w) (sym met.worker) go

-- The team after a round and the meetings.
pub team-goes : (z : TableId) (o : Opening) (c : Codes) (f : Outcomes) (ks ms ns : List Place) → 0 < length ks → length ms ≡ length ks
    → ((i : ℕ) (d : Place) → i < length ks → Did z o c (get_or ks i d) (get_or ms i d)) → Numbered (λ i k. k.failed ≡ false) ms → HaveMet ms ns
    → IsTeam z o c f ks → HasGone z o c f ns
team-goes z o c f ks ms ns some many did fine met t =
    let moved : (i : ℕ) (d : Place) → i < length ks → Moved z o c (get_or ks i d).task (get_or ms i d).task =
    λ i d lt. moved-did z o c (get_or ks i d) (get_or ms i d) (did i d lt) (fine i d (subst (λ n. i < n) (sym many) lt)) in
    let crew = crew-goes z o c f ks ms ns some many moved met t.crew in
    let cut = crew-grows z o c ks ms ns some many moved met in
    let seen = seen_among ks in let all = seen_among ns in
    let same : length ns ≡ length ks = met.many ∙ many in
    let running = crew-running z o c f ns crew in
    let d0 = some-place ks 0 some in
    let whole : all ≡ met.all = among-at ns d0 (subst (λ n. 0 < n) (sym same) some) ∙ met.seen 0 d0 (subst (λ n. 0 < n) (sym many) some) in
    record {
      crew = crew;
      gone = subst (λ l. GoneByRounds o f l (workers_of ns)) cut.1
          (gone-round o c f seen cut.0 (workers_of ks) (workers_of ns) (many-workers ns ∙ same ∙ sym (many-workers ks)) running.own
          (subst (λ l. Numbered (λ i k. IsKept o c f l k) (workers_of ns)) (sym cut.1) (λ i d lt. (running.tasks i d lt).kept))
          (both-workers (λ i k n. Played o f i seen cut.0 k n) ks ns same
          (λ i d lt. let l2 : i < length ms = subst (λ n. i < n) (sym many) lt in
          member-plays z o c f i seen all cut.0 (get_or ks i d) (get_or ms i d) (get_or ns i d) (sym cut.1) (t.crew.members i d lt) (did i d lt) (fine i d l2) (met.each i d l2)
          (met.seen i d l2 ∙ sym whole)))
          t.goes);
    }

pub did-rested : (z : TableId) (o : Opening) (c : Codes) (ks ms ns : List Place) → length ms ≡ length ks
    → ((i : ℕ) (d : Place) → i < length ks → Did z o c (get_or ks i d) (get_or ms i d)) → Numbered (λ i k. k.failed ≡ false) ms → HaveMet ms ns
    → Numbered (λ i k. Rested k) (workers_of ns)
did-rested z o c ks ms ns many did fine met =
    numbered-workers (λ i k. Rested k) ns (λ i d lt.
    let l2 : i < length ms = subst (λ n. i < n) met.many lt in let l : i < length ks = subst (λ n. i < n) many l2 in
    subst Rested (sym (met.each i d l2).worker) (rested-did z o c (get_or ks i d) (get_or ms i d) (did i d l) (fine i d l2)))

pub moved-same : (z : TableId) (o : Opening) (c : Codes) (ks ms ns : List Place) → length ms ≡ length ks
    → ((i : ℕ) (d : Place) → i < length ks → Moved z o c (get_or ks i d).task (get_or ms i d).task) → HaveMet ms ns → AreSame (workers_of ks) (workers_of ns)
moved-same z o c ks ms ns many moved met = same-workers ks ns (met.many ∙ many) (λ i d lt.
    let l2 : i < length ms = subst (λ n. i < n) (sym many) lt in
    subst (IsSame (get_or ks i d).task.worker) (sym (met.each i d l2).worker) (moved i d lt).same)
