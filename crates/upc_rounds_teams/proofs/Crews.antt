-- Places that meet, and a crew that has gone on and met.
use Rattle.std.proofs.Common.{◌≡◌, ℕ, suc, ◌<◌, List, [], ◌∷◌, ◌++◌, length, refl, sym, ap, subst, ◌∙◌, append-nil, arith, get_or}
use Rattle.std.proofs.lemmas.List.{length-map, get_or-map}
use mathlib.Core.List.{IsPrefix}
use Rattle.turn_cell.specs.layer.Members.{of}
use Rattle.turn_cell.specs.layer.Seats.{TableId, number_of, own_of, seen_of}
use Rattle.upc_values.specs.declared.journal.Entry.{Entry}
use Rattle.upc_values.specs.Lists.{Numbered}
use Rattle.upc_values.specs.Openings.{Opening}
use Rattle.upc_values.specs.Drain.{entries_of}
use Rattle.upc_values.specs.History.{EachBelow}
use Rattle.stack_code.specs.layer.Codes.{Codes}
use Rattle.upc_task.specs.layer.Kept.{Worker}
use Rattle.upc_task.specs.declared.seated.Task.{Task}
use Rattle.upc_task.specs.layer.Sources.{Outcomes}
use Rattle.upc_task.specs.layer.Kept.{IsKept, IsSame}
use Rattle.upc_task.specs.layer.Seated.{IsLawful, IsTask}
use Rattle.upc_task.proofs.Lists.{numbered-map}
use Rattle.upc_task.proofs.Seen.{kept-entered}
use Rattle.upc_rounds_teams.specs.declared.place.Place.{Place}
use Rattle.upc_rounds_teams.specs.layer.Course.{Grows}
use Rattle.upc_rounds_teams.specs.layer.Runs.{IsAt, IsRunning, AreSame, HasOwnEnd, IsIdle}
use Rattle.upc_rounds_teams.specs.layer.Places.{Moved}
use Rattle.upc_rounds_teams.specs.layer.Teams.{worker_of, workers_of, seen_at, seen_among, Met, AreMet, HaveMet, IsCrew}
use Rattle.upc_rounds_teams.proofs.Prefixes.{prefix-self, prefix-then, prefix-both}
use Rattle.upc_rounds_teams.proofs.Rounding.{whole-seen}

-- ---- the workers of places

pub some-place : (ks : List Place) (i : ℕ) → i < length ks → Place
some-place [] i lt = absurd (omega arith)
some-place (k ∷ ks) i lt = k

pub numbered-workers : (P : ℕ → Worker → Type 0) (ks : List Place) → Numbered (λ i k. P i k.task.worker) ks → Numbered P (workers_of ks)
numbered-workers P ks h = numbered-map worker_of (λ i k. P i k.task.worker) P (λ i k q. q) ks h

pub worker-at : (ks : List Place) (i : ℕ) (d : Place) (w : Worker) → i < length ks → get_or (workers_of ks) i w ≡ (get_or ks i d).task.worker
worker-at ks i d w lt = get_or-map worker_of ks i d w lt

pub many-workers : (ks : List Place) → length (workers_of ks) ≡ length ks
many-workers ks = length-map ks worker_of

-- What holds of the workers of each two places.
pub both-workers : (R : ℕ → Worker → Worker → Type 0) (ks ms : List Place) → length ms ≡ length ks
    → ((i : ℕ) (d : Place) → i < length ks → R i (get_or ks i d).task.worker (get_or ms i d).task.worker)
    → (i : ℕ) (w : Worker) → i < length (workers_of ks) → R i (get_or (workers_of ks) i w) (get_or (workers_of ms) i w)
both-workers R ks ms many h i w lt =
    let l : i < length ks = subst (λ n. i < n) (many-workers ks) lt in let d = some-place ks i l in
    subst (λ k. R i k (get_or (workers_of ms) i w)) (sym (worker-at ks i d w l))
    (subst (R i (get_or ks i d).task.worker) (sym (worker-at ms i d w (subst (λ n. i < n) (sym many) l))) (h i d l))

pub same-workers : (ks ms : List Place) → length ms ≡ length ks
    → ((i : ℕ) (d : Place) → i < length ks → IsSame (get_or ks i d).task.worker (get_or ms i d).task.worker) → AreSame (workers_of ks) (workers_of ms)
same-workers ks ms many h = record {
  many = many-workers ms ∙ many ∙ sym (many-workers ks);
  each = both-workers (λ i k m. IsSame k m) ks ms many h;
}

pub among-at : (ks : List Place) (d : Place) → 0 < length ks → seen_among ks ≡ seen_at (get_or ks 0 d)
among-at [] d lt = absurd (omega arith)
among-at (k ∷ ks) d lt = refl

-- ---- meetings

pub met-self : (k : Place) → Met k k
met-self k = record { worker = refl; failed = refl; seat = record { cell = refl; number = refl; opening = refl; own = refl }; seen = prefix-self (seen_at k) }

pub met-then : (k l m : Place) → Met k l → Met l m → Met k m
met-then k l m a b = record {
  worker = b.worker ∙ a.worker;
  failed = b.failed ∙ a.failed;
  seat = record { cell = b.seat.cell ∙ a.seat.cell; number = b.seat.number ∙ a.seat.number; opening = b.seat.opening ∙ a.seat.opening; own = b.seat.own ∙ a.seat.own };
  seen = prefix-then (seen_at k) (seen_at l) (seen_at m) a.seen b.seen;
}

-- What the seat has seen besides has no entry of its own.
pub own-stays : (k m : Place) → Met k m → of (λ (e : Entry). e.thread) (number_of k.task.seat) (seen_at m) ≡ of (λ (e : Entry). e.thread) (number_of k.task.seat) (seen_at k)
own-stays k m h =
    sym (subst (λ n. own_of m.task.seat ≡ of (λ (e : Entry). e.thread) n (seen_at m)) h.seat.number m.task.free.0.2) ∙ h.seat.own ∙ k.task.free.0.2

pub met-kept : (z : TableId) (o : Opening) (c : Codes) (f : Outcomes) (k m : Place) → Met k m → IsLawful o (seen_at m) → IsTask z o c f k.task → IsTask z o c f m.task
met-kept z o c f k m h lawful t = record {
  cell = h.seat.cell ∙ t.cell;
  opened = h.seat.opening ∙ t.opened;
  number = h.seat.number ∙ t.number ∙ sym (ap (λ w. w.thread) h.worker);
  lawful = lawful;
  kept = subst (λ w. IsKept o c f (seen_at m) w) (sym h.worker)
      (kept-entered o o c f (number_of k.task.seat) (seen_at k) (seen_at m) k.task.worker h.seen (own-stays k m h) (sym t.number) refl t.kept);
}

-- ---- a crew

pub moved-self : (z : TableId) (o : Opening) (c : Codes) (k : Task) → Moved z o c k k
moved-self z o c k = record { same = record { thread = refl; limits = refl }; own = λ h. h; idle = λ h. h; fine = λ f h. h; sees = prefix-self (seen_of k.seat) }

pub crew-goes : (z : TableId) (o : Opening) (c : Codes) (f : Outcomes) (ks ms ns : List Place) → 0 < length ks → length ms ≡ length ks
    → ((i : ℕ) (d : Place) → i < length ks → Moved z o c (get_or ks i d).task (get_or ms i d).task) → HaveMet ms ns → IsCrew z o c f ks → IsCrew z o c f ns
crew-goes z o c f ks ms ns some many moved met t =
    let same : length ns ≡ length ks = met.many ∙ many in
    let d0 = some-place ks 0 some in let some2 : 0 < length ms = subst (λ n. 0 < n) (sym many) some in let some3 : 0 < length ns = subst (λ n. 0 < n) (sym same) some in
    let whole : seen_among ns ≡ met.all = among-at ns d0 some3 ∙ met.seen 0 d0 some2 in
    let lawful : IsLawful o met.all = met.lawful o (λ i d lt.
    let l : i < length ks = subst (λ n. i < n) many lt in ((moved i d l).fine f (t.members i d l).kept).lawful) in
    record {
      many = same ∙ t.many;
      members = λ i d lt.
          let l : i < length ks = subst (λ n. i < n) same lt in let l2 : i < length ms = subst (λ n. i < n) (sym many) l in
          let k = get_or ks i d in let m = get_or ms i d in let n = get_or ns i d in
          let h = t.members i d l in let mv = moved i d l in let mi = met.each i d l2 in let si = met.seen i d l2 in
          record {
            kept = met-kept z o c f m n mi (subst (IsLawful o) (sym si) lawful) (mv.fine f h.kept);
            thread = ap (λ w. w.thread) mi.worker ∙ mv.same.thread ∙ h.thread;
            seen_is = si ∙ sym whole;
            own = subst HasOwnEnd (sym mi.worker) (mv.own h.own);
            idle = subst IsIdle (sym mi.worker) (mv.idle h.idle);
          };
    }

-- What all have seen then begins with what all had seen.
pub crew-grows : (z : TableId) (o : Opening) (c : Codes) (ks ms ns : List Place) → 0 < length ks → length ms ≡ length ks
    → ((i : ℕ) (d : Place) → i < length ks → Moved z o c (get_or ks i d).task (get_or ms i d).task) → HaveMet ms ns → IsPrefix (seen_among ks) (seen_among ns)
crew-grows z o c ks ms ns some many moved met =
    let d0 = some-place ks 0 some in let some2 : 0 < length ms = subst (λ n. 0 < n) (sym many) some in
    let some3 : 0 < length ns = subst (λ n. 0 < n) (sym (met.many ∙ many)) some in
    subst (λ l. IsPrefix l (seen_among ns)) (sym (among-at ks d0 some))
    (subst (IsPrefix (seen_at (get_or ks 0 d0))) (sym (among-at ns d0 some3))
    (prefix-then (seen_at (get_or ks 0 d0)) (seen_at (get_or ms 0 d0)) (seen_at (get_or ns 0 d0)) (moved 0 d0 some).sees (met.each 0 d0 some2).seen))

pub grows-of : (xs ys : List Entry) → IsPrefix xs ys → Grows xs ys
grows-of xs ys p = (p.0, sym p.1)

pub crew-running : (z : TableId) (o : Opening) (c : Codes) (f : Outcomes) (ks : List Place) → IsCrew z o c f ks → IsRunning o c f (seen_among ks) (workers_of ks)
crew-running z o c f ks t = record {
  many = many-workers ks ∙ t.many;
  tasks = numbered-workers (IsAt o c f (seen_among ks)) ks (λ i d lt. let h = t.members i d lt in
      record { thread = h.thread; kept = subst (λ l. IsKept o c f l (get_or ks i d).task.worker) h.seen_is h.kept.kept });
  own = numbered-workers (λ i k. HasOwnEnd k) ks (λ i d lt. (t.members i d lt).own);
  idle = numbered-workers (λ i k. IsIdle k) ks (λ i d lt. (t.members i d lt).idle);
}

-- Seats of a crew that have only met have seen no more than before.
pub crew-whole : (z : TableId) (o : Opening) (c : Codes) (f : Outcomes) (ks ns : List Place) → 0 < length ks → length ns ≡ length ks
    → ((i : ℕ) (d : Place) → i < length ks → Met (get_or ks i d) (get_or ns i d)) → (all : List Entry) → ((i : ℕ) (d : Place) → i < length ks → seen_at (get_or ns i d) ≡ all)
    → IsLawful o all → IsCrew z o c f ks → all ≡ seen_among ks
crew-whole z o c f ks ns some many met all seen lawful t =
    let d0 = some-place ks 0 some in
    let b : IsPrefix (seen_among ks) all =
    subst (λ l. IsPrefix l all) (t.members 0 d0 some).seen_is (subst (IsPrefix (seen_at (get_or ks 0 d0))) (seen 0 d0 some) (met 0 d0 some).seen) in
    let same : (i : ℕ) → i < o.threads → entries_of i (seen_among ks ++ b.0) ≡ entries_of i (seen_among ks) = λ i lo.
    let lt : i < length ks = subst (λ n. i < n) (sym t.many) lo in
    let d = some-place ks i lt in let h = t.members i d lt in let k = get_or ks i d in
    let number : number_of k.task.seat ≡ i = h.kept.number ∙ h.thread in
    ap (entries_of i) (b.1 ∙ sym (seen i d lt))
    ∙ subst (λ j. entries_of j (seen_at (get_or ns i d)) ≡ entries_of j (seen_at k)) number (own-stays k (get_or ns i d) (met i d lt))
    ∙ ap (entries_of i) h.seen_is in
    let none : b.0 ≡ [] = whole-seen o.threads (seen_among ks) b.0
    (below-behind o.threads (seen_among ks) b.0 (subst (EachBelow o.threads) (sym b.1) lawful.below)) same in
    sym b.1 ∙ ap (λ l. seen_among ks ++ l) none ∙ append-nil (seen_among ks)
  where
    below-behind : (n : ℕ) (xs ys : List Entry) → EachBelow n (xs ++ ys) → EachBelow n ys
    below-behind n [] ys h = h
    below-behind n (x ∷ xs) ys h = below-behind n xs ys h.1

-- ---- a crew of which some have seen more, and all have met again

pub workers-same : (ks ns : List Place) → length ns ≡ length ks → ((i : ℕ) (d : Place) → i < length ks → (get_or ns i d).task.worker ≡ (get_or ks i d).task.worker)
    → workers_of ns ≡ workers_of ks
workers-same [] [] many h = refl
workers-same [] (n ∷ ns) many h = absurd (omega arith)
workers-same (k ∷ ks) [] many h = absurd (omega arith)
workers-same (k ∷ ks) (n ∷ ns) many h =
    ap (λ w. w ∷ workers_of ns) (h 0 k (omega arith))
    ∙ ap (λ l. k.task.worker ∷ l) (workers-same ks ns (omega arith) (λ i d lt. h (suc i) d (omega arith)))

module _ (ks ms ns : List Place) (some : 0 < length ks) (asked : AreMet ks ms) (met : HaveMet ms ns) where
  many : length ns ≡ length ks
  many = met.many ∙ asked.many

  both : (i : ℕ) (d : Place) → i < length ks → Met (get_or ks i d) (get_or ns i d)
  both i d lt =
      met-then (get_or ks i d) (get_or ms i d) (get_or ns i d) (asked.each i d lt) (met.each i d (subst (λ n. i < n) (sym asked.many) lt))

  pub again-workers : workers_of ns ≡ workers_of ks
  again-workers = workers-same ks ns many (λ i d lt. (both i d lt).worker)

  module _ (z : TableId) (o : Opening) (c : Codes) (f : Outcomes) (kept : Numbered (λ i k. IsTask z o c f k.task) ms) (t : IsCrew z o c f ks) where
    lawful : IsLawful o met.all
    lawful = met.lawful o (λ i d lt. (kept i d lt).lawful)

    seen-all : (i : ℕ) (d : Place) → i < length ks → seen_at (get_or ns i d) ≡ met.all
    seen-all i d lt = met.seen i d (subst (λ n. i < n) (sym asked.many) lt)

    all-is : met.all ≡ seen_among ks
    all-is = crew-whole z o c f ks ns some many both met.all seen-all lawful t

    among-is : seen_among ns ≡ met.all
    among-is = let d = some-place ks 0 some in among-at ns d (subst (λ n. 0 < n) (sym many) some) ∙ seen-all 0 d some

    pub again-crew : IsCrew z o c f ns × (seen_among ns ≡ seen_among ks)
    again-crew = (
      record {
        many = many ∙ t.many;
        members = λ i d lt.
            let l : i < length ks = subst (λ n. i < n) many lt in let k = get_or ks i d in let n = get_or ns i d in
            let h = t.members i d l in let mi = both i d l in
            record {
              kept = met-kept z o c f k n mi (subst (IsLawful o) (sym (seen-all i d l)) lawful) h.kept;
              thread = ap (λ w. w.thread) mi.worker ∙ h.thread;
              seen_is = seen-all i d l ∙ sym among-is;
              own = subst HasOwnEnd (sym mi.worker) h.own;
              idle = subst IsIdle (sym mi.worker) h.idle;
            };
      },
      among-is ∙ all-is,
    )

    -- Each had seen the whole when it asked.
    pub asked-whole : (i : ℕ) (d : Place) → i < length ms → seen_at (get_or ms i d) ≡ seen_among ns
    asked-whole i d lt =
        let l : i < length ks = subst (λ n. i < n) asked.many lt in
        let m = seen_at (get_or ms i d) in
        let front : IsPrefix (seen_among ks) m = subst (λ l. IsPrefix l m) (t.members i d l).seen_is (asked.each i d l).seen in
        let back : IsPrefix m (seen_among ks) = subst (IsPrefix m) (met.seen i d lt ∙ all-is) (met.each i d lt).seen in
        prefix-both m (seen_among ks) back front ∙ sym all-is ∙ sym among-is
