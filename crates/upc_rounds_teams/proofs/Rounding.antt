-- Threads' parts make a round of all, and these a history that goes by rounds.
use Rattle.std.proofs.Common.{◌≡◌, ◌≢◌, ℕ, ◌<◌, true, false, List, [], ◌∷◌, ◌++◌, length, Option, Some, None, is_some, refl, sym, ap, subst, ◌∙◌, append-nil, append_assoc, arith, inl, inr, get_or}
use Rattle.std.specs.Prelude.{◌⊎◌}
use Rattle.std.proofs.lemmas.Bool.{false≢true}
use Rattle.std.proofs.lemmas.List.{get_or_default, append_cancel_left}
use Rattle.upc_values.specs.declared.action.Action.{Action}
use Rattle.upc_values.specs.declared.record.Item.{Item}
use Rattle.upc_values.specs.declared.record.Item.TheVariants.{Did, Stall}
use Rattle.upc_values.specs.declared.record.ToldEnd.{ToldEnd}
use Rattle.upc_values.specs.declared.record.End.{End}
use Rattle.upc_values.specs.declared.record.End.TheVariants.{Ended, Fault, Budget, ActionsFull, Exit, Halted, Deadlocked}
use Rattle.upc_values.specs.declared.journal.Entry.{Entry}
use Rattle.upc_values.specs.Lists.{Numbered}
use Rattle.upc_values.specs.Openings.{Opening}
use Rattle.upc_values.specs.Drain.{entries_in, walked, entries_of, drain}
use Rattle.upc_values.specs.History.{reply, EachBelow}
use Rattle.upc_values.specs.Outcomes.{wanted}
use Rattle.upc_values.specs.Records.{last_item, last_from, is_stall}
use Rattle.upc_values.specs.Strands.{MayWait, StallsStand}
use Rattle.upc_values.specs.Ends.{stops, OwnEnd}
use Rattle.upc_values.proofs.Walks.{walked-push, entries_of-append, entries-own}
use Rattle.upc_values.proofs.Records.{last-push}
use Rattle.stack_code.specs.layer.Codes.{Codes}
use Rattle.stack_machine.specs.declared.wish.Wish.{Wish}
use Rattle.stack_machine.specs.declared.wish.Wish.TheVariants.{Act}
use Rattle.stack_machine.specs.declared.wish.Wish.TheVariants as wishes
use Rattle.stack_machine.specs.layer.Machine.{told_of}
use Rattle.upc_task.specs.layer.Kept.{Worker}
use Rattle.upc_task.specs.declared.worker.Pause.TheVariants.{Stalled}
use Rattle.upc_task.specs.Ends.{is_given}
use Rattle.upc_task.specs.layer.Sources.{Outcomes}
use Rattle.upc_task.specs.layer.Kept.{IsKept, IsSame, Waits, settled, outcome_of, end_or}
use Rattle.upc_rounds_teams.specs.Rounds.{BeatsLast, ends_with_beat, joined, StandsAtStall, StandsLast, Rests, RestsAfterEach, AfterEach, AfterLast, but_last}
use Rattle.upc_rounds_teams.specs.layer.Course.{TakesPart}
use Rattle.upc_rounds_teams.specs.layer.Runs.{HasOwnEnd, NoneStops, Moving, standing_of}
use Rattle.upc_rounds_teams.specs.layer.Played.{want_of, KeepsStalls, Acted, Played, SomeGoes, GoesByRounds, GoneByRounds}
use Rattle.upc_rounds_teams.proofs.Items.{none-added, stalls-at, same-stall}
use Rattle.upc_rounds_teams.proofs.Resting.{joined-push, but-last-push, after-map, last-map, last-push as after-push, last-whole, each-last, rests-each, stands-longer, ready-stays, rests-moved, rests-push}
use Rattle.upc_rounds_teams.proofs.Gains.{keeps-self}

-- ---- a thread's part, in what all have seen

stall-last : (o : Option Item) (xs : List Item) → is_stall o ≡ false → is_stall (last_from o xs) ≡ true → (ahead : List Item) × (xs ≡ ahead ++ Stall ∷ [])
stall-last o [] h q = absurd (false≢true (sym h ∙ q))
stall-last o (Did a r ∷ xs) h q = let z = stall-last (Some (Did a r)) xs refl q in (Did a r ∷ z.0, ap (λ l. Did a r ∷ l) z.1)
stall-last o (Stall ∷ []) h q = ([], refl)
stall-last o (Stall ∷ Stall ∷ xs) h q = let z = stall-last o (Stall ∷ xs) h q in (Stall ∷ z.0, ap (λ l. Stall ∷ l) z.1)
stall-last o (Stall ∷ Did a r ∷ xs) h q = let z = stall-last o (Did a r ∷ xs) h q in (Stall ∷ z.0, ap (λ l. Stall ∷ l) z.1)

stands-is : (t : ℕ) (items : List Item) (b p : List Entry) → StandsLast t items b p → is_stall (last_item items) ≡ true
stands-is t items b p s = ap (λ l. is_stall (last_item l)) s.is ∙ ap is_stall (last-push s.ahead Stall)

-- What a worker that stands at its last Stall has emitted.
stalled-out : (o : Opening) (c : Codes) (f : Outcomes) (now : List Entry) (m : Worker) (ahead : List Item) → IsKept o c f now m → m.«end» ≡ None
    → m.items.items ≡ ahead ++ Stall ∷ [] → entries_of m.thread now ≡ drain m.thread ahead
stalled-out o c f now m ahead h q is =
    h.holds.out ∙ ap (λ e. entries_in (settled e (walked m.thread m.items.items)).emitted) q
    ∙ ap (λ l. entries_in (walked m.thread l).emitted) is ∙ ap (λ v. entries_in v.emitted) (walked-push m.thread ahead Stall)

-- A worker that stalled now stands at a Stall now.
stands-now : (o : Opening) (c : Codes) (f : Outcomes) (before part now : List Entry) (m : Worker) → now ≡ before ++ part → IsKept o c f now m → m.«end» ≡ None → Waits Stalled o now m
    → StandsAtStall o m.thread m.items.items (want_of f m) before part
stands-now o c f before part now m is h q w =
    let t = m.thread in let a = stall-last None m.items.items refl w.2 in
    let here : entries_of t (before ++ part) ≡ drain t a.0 = ap (entries_of t) (sym is) ∙ stalled-out o c f now m a.0 h q a.1 in
    record {
      ahead = a.0;
      behind = [];
      is = a.1;
      drained = here;
      front = part;
      rest = [];
      cut = sym (append-nil part);
      whole = here;
      action = w.0;
      wants = ap wanted (sym (h.recorded.goes.wished (Act w.0) w.1).1);
      none = subst (λ l. reply o l t w.0 ≡ None) is w.3;
    }

none-left : (t : ℕ) (xs rest : List Entry) → entries_of t rest ≡ [] → entries_of t (xs ++ rest) ≡ entries_of t xs
none-left t xs rest none = entries_of-append t xs rest ∙ ap (λ l. entries_of t xs ++ l) none ∙ append-nil (entries_of t xs)

-- A thread that acted has played in the part that all have seen when they have met.
pub played-seen : (o : Opening) (c : Codes) (f : Outcomes) (t : ℕ) (before part seen rest : List Entry) (k m : Worker) → before ++ part ≡ seen ++ rest → entries_of t rest ≡ [] → k.«end» ≡ None → m.thread ≡ t
    → IsKept o c f seen m → IsSame k m → TakesPart (standing_of k) (standing_of m) → (length k.items.items ≡ k.limits.actions → is_some m.«end» ≡ true)
    → Acted o f t before seen k m → Played o f t before part k m
played-seen o c f t before part seen rest k m is none opened thread h same takes full a =
    let cut : part ≡ a.gained ++ rest = append_cancel_left before part (a.gained ++ rest) (is ∙ ap (λ l. l ++ rest) a.is ∙ append_assoc before a.gained rest) in
    let own : entries_of t part ≡ entries_of t a.gained = ap (entries_of t) cut ∙ none-left t a.gained rest none in
    record {
      beats = subst BeatsLast (sym own) a.beats;
      keeps = a.keeps;
      rests = elim a.rests [
        | inl b ↦ inl (ap ends_with_beat own ∙ b.0, b.1)
        | inr r ↦ elim r [
          | inl z ↦ inr (inl z)
          | inr w ↦
              let last = stall-last None m.items.items refl w.2.2 in
              inr (inr (
                subst (λ l. StandsAtStall o t m.items.items (want_of f m) before l) (sym cut)
                    (stands-longer o t m.items.items (want_of f m) before a.gained rest none
                    (subst (λ j. StandsAtStall o j m.items.items (want_of f m) before a.gained) thread (stands-now o c f before a.gained seen m a.is h w.0 w.2))),
                record {
                  ahead = last.0;
                  is = last.1;
                  drained = ap (entries_of t) is ∙ none-left t seen rest none
                      ∙ subst (λ j. entries_of j seen ≡ drain j last.0) thread (stalled-out o c f seen m last.0 h w.0 last.1);
                  no_beat = ap ends_with_beat own ∙ w.1;
                },
              ))
        ]
      ];
      over = λ q. absurd (false≢true (sym (ap is_some opened) ∙ q));
      takes = λ q. takes;
      full = λ q. full;
      same = same;
    }

-- One that had its end has played too.
pub played-over : (o : Opening) (f : Outcomes) (t : ℕ) (before part : List Entry) (k m : Worker) → is_some k.«end» ≡ true → m ≡ k → entries_of t part ≡ [] → Played o f t before part k m
played-over o f t before part k m ended same none = record {
  beats = subst BeatsLast (sym none) tt;
  keeps = subst (λ n. KeepsStalls f k n) (sym same) (keeps-self f k);
  rests = inr (inl (ap (λ n. is_some n.«end») same ∙ ended));
  over = λ q. (same, none);
  takes = λ q. absurd (false≢true (sym (ap is_some q) ∙ ended));
  full = λ q. absurd (false≢true (sym (ap is_some q) ∙ ended));
  same = record { thread = ap (λ n. n.thread) same; limits = ap (λ n. n.limits) same };
}

-- A prefix that has all entries of each number is the whole.
none-behind : (t : ℕ) (seen more : List Entry) → entries_of t (seen ++ more) ≡ entries_of t seen → entries_of t more ≡ []
none-behind t seen more h = append_cancel_left (entries_of t seen) (entries_of t more) [] (sym (entries_of-append t seen more) ∙ h ∙ sym (append-nil (entries_of t seen)))

pub whole-seen : (n : ℕ) (seen more : List Entry) → EachBelow n more → ((t : ℕ) → t < n → entries_of t (seen ++ more) ≡ entries_of t seen) → more ≡ []
whole-seen n seen [] b h = refl
whole-seen n seen (e ∷ more) b h =
    let z : entries_of e.thread (e ∷ more) ≡ [] = none-behind e.thread seen (e ∷ more) (h e.thread b.0) in
    let y : entries_of e.thread (e ∷ more) ≡ e ∷ entries_of e.thread more =
    entries_of-append e.thread (e ∷ []) more ∙ ap (λ l. l ++ entries_of e.thread more) (entries-own e.thread e refl) in
    absurd (let x : e ∷ entries_of e.thread more ≡ [] = sym y ∙ z in cc)

-- ---- ends

-- Where the end is some or none.
pub none-or : (m : Worker) → (m.«end» ≡ None) ⊎ ((e : End) × (m.«end» ≡ Some e))
none-or m = go m.«end» refl
  where
    go : (z : Option End) → m.«end» ≡ z → (m.«end» ≡ None) ⊎ ((e : End) × (m.«end» ≡ Some e))
    go None q = inl q
    go (Some e) q = inr (e, q)

-- An end of its own of a thread that wants what may wait is that of a full record.
stall-end : (actions : ℕ) (te : ToldEnd) (items : List Item) (e : End) → OwnEnd actions te items e → MayWait (wanted te) → is_given e ≡ false → e ≡ ActionsFull
stall-end actions te items (Ended v) h w g = absurd (subst (λ z. MayWait (wanted z)) h w)
stall-end actions te items (Fault c p) h w g = absurd (subst (λ z. MayWait (wanted z)) h w)
stall-end actions te items (Exit v) h w g = absurd (subst (λ z. MayWait (wanted z)) h w)
stall-end actions te items Budget h w g = absurd (subst (λ z. MayWait (wanted z)) h w)
stall-end actions te items ActionsFull h w g = refl
stall-end actions te items Halted h w g = absurd (false≢true (sym g))
stall-end actions te items (Deadlocked a) h w g = absurd (false≢true (sym g))

-- So of a worker that has an end where it stands at its last Stall.
stalled-full : (o : Opening) (c : Codes) (f : Outcomes) (seen : List Entry) (m : Worker) (ahead : List Item) (e : End) → IsKept o c f seen m → HasOwnEnd m
    → m.items.items ≡ ahead ++ Stall ∷ [] → m.«end» ≡ Some e → e ≡ ActionsFull
stalled-full o c f seen m ahead e h own is q =
    let stands : StallsStand (want_of f m) (ahead ++ Stall ∷ []) = subst (StallsStand (want_of f m)) is h.recorded.stalls in
    stall-end m.limits.actions (outcome_of f m).«end» m.items.items e (h.recorded.ended e q).own (stalls-at (want_of f m) ahead [] stands).1 (own e q)

-- ---- a round of all

rests-round : (o : Opening) (f : Outcomes) (i : ℕ) (seen part : List Entry) (ps : List (List Entry)) (k m : Worker) → joined ps ≡ seen → HasOwnEnd m → Played o f i seen part k m
    → RestsAfterEach o i k.items.items (want_of f k) (end_or k.«end») [] ps → RestsAfterEach o i m.items.items (want_of f m) (end_or m.«end») [] (ps ++ part ∷ [])
rests-round o f i seen part ps k m whole om p h =
    let now : Rests o i m.items.items (want_of f m) (end_or m.«end») ([] ++ joined ps) part [] =
    subst (λ l. Rests o i m.items.items (want_of f m) (end_or m.«end») l part []) (sym whole)
    (elim p.rests [
      | inl b ↦ inl b.0
      | inr z ↦ elim z [
        | inl y ↦ elim (none-or m) [
          | inl n ↦ absurd (false≢true (sym (ap is_some n) ∙ y))
          | inr e ↦ inr (inl (refl, ap (λ g. is_given (end_or g)) e.1 ∙ om e.0 e.1))
        ]
        | inr s ↦ inr (inr s.0)
      ]
    ]) in
    elim (none-or k) [
      | inl q ↦ rests-push o i k.items.items m.items.items (want_of f k) (want_of f m) Halted (end_or m.«end») [] ps part p.keeps (λ y. absurd (false≢true (sym y)))
          (subst (λ g. RestsAfterEach o i k.items.items (want_of f k) g [] ps) (ap end_or q) h) p.beats now
      | inr e ↦ let v = p.over (ap is_some e.1) in
          rests-push o i k.items.items m.items.items (want_of f k) (want_of f m) (end_or k.«end») (end_or m.«end») [] ps part p.keeps
          (λ y. (v.1, ap (λ n. is_given (end_or n.«end»)) v.0 ∙ y)) h p.beats now
    ]

-- A thread that came to its end in the last round.
last-stops : (o : Opening) (f : Outcomes) (i : ℕ) (seen part : List Entry) (k m : Worker) (ps : List (List Entry)) → Played o f i seen part k m
    → ((e : End) → k.«end» ≡ Some e → stops e ≡ false) → stops (end_or m.«end») ≡ true
    → RestsAfterEach o i k.items.items (want_of f k) (end_or k.«end») [] ps → RestsAfterEach o i m.items.items (want_of f m) Halted [] ps
last-stops o f i seen part k m ps p quiet s h = elim (none-or k) [
  | inl q ↦ rests-moved o i k.items.items m.items.items (want_of f k) (want_of f m) Halted Halted [] ps p.keeps (λ y. y)
      (subst (λ g. RestsAfterEach o i k.items.items (want_of f k) g [] ps) (ap end_or q) h)
  | inr e ↦ let v = p.over (ap is_some e.1) in
      absurd (false≢true (sym (quiet e.0 e.1) ∙ sym (ap (λ g. stops (end_or g)) (ap (λ n. n.«end») v.0 ∙ e.1)) ∙ s))
]

-- What a thread added to its record in its part.
grown-of : (k m : Worker) → TakesPart (standing_of k) (standing_of m) → (more : List Item) × (m.items.items ≡ k.items.items ++ more)
grown-of k m p = elim p.last.1 [
  | inl a ↦ (p.items ++ a.0 ∷ [], ap (λ s. s.items) a.1 ∙ append_assoc k.items.items p.items (a.0 ∷ []))
  | inr r ↦ elim r [
    | inl s ↦ (p.items, ap (λ s. s.items) s.1)
    | inr e ↦ (p.items, ap (λ s. s.items) e.2)
  ]
]

-- A full record that stands at its last Stall after an earlier part has its end by that.
full-never : (o : Opening) (c : Codes) (f : Outcomes) (i : ℕ) (seen part now : List Entry) (k m : Worker) → Played o f i seen part k m
    → ((e : End) → k.«end» ≡ Some e → stops e ≡ false) → HasOwnEnd m → IsKept o c f now m → length m.items.items ≡ m.limits.actions → (m.«end» ≢ Some ActionsFull)
    → (b p later : List Entry) → Rests o i k.items.items (want_of f k) (end_or k.«end») b p later → StandsLast i m.items.items b p → ⊥
full-never o c f i seen part now k m pl quiet own h many ne b p later r s = elim (none-or k) [
  | inr e ↦ let v = pl.over (ap is_some e.1) in
      let q : m.«end» ≡ Some e.0 = ap (λ n. n.«end») v.0 ∙ e.1 in
      ne (q ∙ ap Some (stalled-full o c f now m s.ahead e.0 h own s.is q))
  | inl q ↦ elim r [
    | inl beat ↦ false≢true (sym s.no_beat ∙ beat)
    | inr z ↦ elim z [
      | inl y ↦ false≢true (sym y.1 ∙ ap (λ g. is_given (end_or g)) q)
      | inr st ↦
          let more = grown-of k m (pl.takes q) in
          let whole : st.ahead ++ Stall ∷ (st.behind ++ more.0) ≡ s.ahead ++ Stall ∷ [] =
          sym (append_assoc st.ahead (Stall ∷ st.behind) more.0) ∙ ap (λ l. l ++ more.0) (sym st.is) ∙ sym more.1 ∙ s.is in
          let stands : StallsStand (want_of f m) (s.ahead ++ Stall ∷ []) = subst (StallsStand (want_of f m)) s.is h.recorded.stalls in
          let none : st.behind ++ more.0 ≡ [] = same-stall i (want_of f m) st.ahead (st.behind ++ more.0) s.ahead whole stands (sym st.drained ∙ s.drained) in
          let empty : more.0 ≡ [] = right-empty st.behind more.0 none in
          let same : m.items.items ≡ k.items.items = more.1 ∙ ap (λ l. k.items.items ++ l) empty ∙ append-nil k.items.items in
          let full : is_some m.«end» ≡ true = pl.full q (ap length (sym same) ∙ many ∙ ap (λ l. l.actions) pl.same.limits) in
          elim (none-or m) [
            | inl n ↦ false≢true (sym (ap is_some n) ∙ full)
            | inr e ↦ ne (e.1 ∙ ap Some (stalled-full o c f now m s.ahead e.0 h own s.is e.1))
          ]
    ]
  ]
]
  where
    right-empty : (xs ys : List Item) → xs ++ ys ≡ [] → ys ≡ []
    right-empty [] ys h = h
    right-empty (x ∷ xs) ys h = absurd cc

-- A thread that a full record ended at a Stall had no more items when the round began.
full-before : (k m : Worker) (e : End) → TakesPart (standing_of k) (standing_of m) → m.«end» ≡ Some e → is_stall (last_item m.items.items) ≡ true → m.items.items ≡ k.items.items
full-before k m e p q s = elim p.last.1 [
  | inl a ↦ absurd (some-none (ap (λ u. u.«end») a.1))
  | inr r ↦ elim r [
    | inl y ↦ absurd (some-none (ap (λ u. u.«end») y.1))
    | inr z ↦
        let is : m.items.items ≡ k.items.items ++ p.items = ap (λ u. u.items) z.2 in
        let none = none-added k.items.items p.items p.going (ap (λ l. is_stall (last_item l)) (sym is) ∙ s) in
        is ∙ ap (λ l. k.items.items ++ l) none ∙ append-nil k.items.items
  ]
]
  where
    some-none : m.«end» ≡ None → ⊥
    some-none h = let bad : Some e ≡ None = sym q ∙ h in absurd cc

pub gone-round : (o : Opening) (c : Codes) (f : Outcomes) (seen part : List Entry) (ks ms : List Worker) → length ms ≡ length ks → Numbered (λ i k. HasOwnEnd k) ms
    → Numbered (λ i k. IsKept o c f (seen ++ part) k) ms → ((i : ℕ) (d : Worker) → i < length ks → Played o f i seen part (get_or ks i d) (get_or ms i d))
    → GoesByRounds o f seen ks → GoneByRounds o f (seen ++ part) ms
gone-round o c f seen part ks ms many own kept played g =
    let ps = g.has.parts in let bl : but_last (ps ++ part ∷ []) ≡ ps = but-last-push ps part in
    let lt : (i : ℕ) → i < length ms → i < length ks = λ i l. subst (λ j. i < j) many l in
    record {
      has = record {
        parts = ps ++ part ∷ [];
        whole = joined-push ps part ∙ ap (λ l. l ++ part) g.has.whole;
        rests = λ i d l. rests-round o f i seen part ps (get_or ks i d) (get_or ms i d) g.has.whole (own i d l) (played i d (lt i l)) (g.has.rests i d (lt i l));
      };
      stalls = λ i d l q s.
          let m = get_or ms i d in let p = played i d (lt i l) in
          elim p.rests [
            | inl b ↦ absurd (false≢true (sym b.1 ∙ s))
            | inr z ↦ elim z [
              | inl y ↦ absurd (false≢true (sym (ap is_some q) ∙ y))
              | inr w ↦ after-push (StandsLast i m.items.items) [] ps part (subst (λ x. StandsLast i m.items.items x part) (sym g.has.whole) w.1)
            ]
          ];
      beats = λ i d l q s.
          let m = get_or ms i d in let p = played i d (lt i l) in
          elim p.rests [
            | inl b ↦ after-push (λ before r. ends_with_beat (entries_of i r) ≡ true) [] ps part b.0
            | inr z ↦ elim z [
              | inl y ↦ absurd (false≢true (sym (ap is_some q) ∙ y))
              | inr w ↦ absurd (false≢true (sym s ∙ stands-is i m.items.items seen part w.1))
            ]
          ];
      before = λ i d l s. subst (RestsAfterEach o i (get_or ms i d).items.items (want_of f (get_or ms i d)) Halted []) (sym bl)
          (last-stops o f i seen part (get_or ks i d) (get_or ms i d) ps (played i d (lt i l)) (g.quiet i d (lt i l)) s (g.has.rests i d (lt i l)));
      goes = subst (AfterEach (SomeGoes o f ms) []) (sym bl)
          (after-map (SomeGoes o f ks) (SomeGoes o f ms) [] ps (λ b p s. record {
            thread = s.thread;
            within = subst (λ n. s.thread < n) (sym many) s.within;
            goes = λ d.
                let k = get_or ks s.thread d in let m = get_or ms s.thread d in
                elim (s.goes d) [
                  | inl beat ↦ inl beat
                  | inr r ↦ inr (ready-stays o s.thread k.items.items m.items.items (want_of f k) (want_of f m) b p (played s.thread d s.within).keeps r)
                ];
          }) g.goes);
      full_ends = λ i d l n ne.
          let k = get_or ks i d in let m = get_or ms i d in
          subst (AfterEach (λ b p. StandsLast i m.items.items b p → ⊥) []) (sym bl)
          (rests-each o i k.items.items (want_of f k) (end_or k.«end») (λ b p. StandsLast i m.items.items b p → ⊥) [] ps
          (full-never o c f i seen part (seen ++ part) k m (played i d (lt i l)) (g.quiet i d (lt i l)) (own i d l) (kept i d l) n ne) (g.has.rests i d (lt i l)));
      full_stood = λ i d l q s.
          let k = get_or ks i d in let m = get_or ms i d in let p = played i d (lt i l) in
          subst (AfterLast (StandsLast i m.items.items) []) (sym bl)
          (elim (none-or k) [
            | inr e ↦
                let same : Some e.0 ≡ Some ActionsFull = sym e.1 ∙ sym (ap (λ n. n.«end») (p.over (ap is_some e.1)).0) ∙ q in
                let is : e.0 ≡ ActionsFull = cc in
                absurd (false≢true (sym (g.quiet i d (lt i l) e.0 e.1) ∙ ap stops is))
            | inl n ↦
                let same = full-before k m ActionsFull (p.takes n) q s in
                subst (λ xs. AfterLast (StandsLast i xs) [] ps) (sym same)
                (g.stalls i d (lt i l) n (ap (λ xs. is_stall (last_item xs)) (sym same) ∙ s))
          ]);
    }

-- ---- before the next round

pub gone-start : (o : Opening) (f : Outcomes) (ks : List Worker) → Numbered (λ i k. (k.items.items ≡ []) × (k.«end» ≡ None)) ks → GoesByRounds o f [] ks
gone-start o f ks new = record {
  has = record { parts = []; whole = refl; rests = λ i d lt. tt };
  quiet = λ i d lt e q. absurd (let bad : None ≡ Some e = sym (new i d lt).1 ∙ q in cc);
  stalls = λ i d lt q s. absurd (false≢true (ap (λ xs. is_stall (last_item xs)) (sym (new i d lt).0) ∙ s));
  goes = tt;
}

pub some-worker : (ks : List Worker) (i : ℕ) → i < length ks → Worker
some-worker [] i lt = absurd (omega arith)
some-worker (k ∷ ks) i lt = k

-- Where some worker may go on there is a further round.
pub goes-on : (o : Opening) (c : Codes) (f : Outcomes) (seen : List Entry) (ks : List Worker) (at : ℕ) → NoneStops ks → Numbered (λ i k. IsKept o c f seen k × (k.thread ≡ i)) ks → Moving o seen ks at
    → GoneByRounds o f seen ks → GoesByRounds o f seen ks
goes-on o c f seen ks at quiet kept mv g =
    let d0 = some-worker ks at mv.within in let k = get_or ks at d0 in let ps = g.has.parts in
    let one : (b p : List Entry) → (ends_with_beat (entries_of at p) ≡ true) ⊎ Rattle.upc_rounds_teams.specs.Rounds.StandsReady o at k.items.items (want_of f k) b p → SomeGoes o f ks b p =
    λ b p h. record {
      thread = at;
      within = mv.within;
      goes = λ d. subst (λ n. (ends_with_beat (entries_of at p) ≡ true) ⊎ Rattle.upc_rounds_teams.specs.Rounds.StandsReady o at n.items.items (want_of f n) b p) (get_or_default ks at d0 d mv.within) h;
    } in
    let last : AfterLast (SomeGoes o f ks) [] ps = elim (mv.goes d0) [
      | inl off ↦ last-map (λ b p. ends_with_beat (entries_of at p) ≡ true) (SomeGoes o f ks) [] ps (λ b p h. one b p (inl h)) (g.beats at d0 mv.within (mv.opened d0) off)
      | inr w ↦
          let h = kept at d0 mv.within in
          last-map (λ b p. StandsLast at k.items.items b p × (b ++ p ≡ joined ps)) (SomeGoes o f ks) [] ps
          (λ b p s. one b p (inr (record {
            ahead = s.0.ahead;
            behind = [];
            is = s.0.is;
            drained = s.0.drained;
            action = w.1;
            wants = ap wanted (sym (h.0.recorded.goes.wished (Act w.1) w.2).1);
            some = subst (λ l. is_some (reply o l at w.1) ≡ true) (sym (s.1 ∙ g.has.whole)) (subst (λ t. is_some (reply o seen t w.1) ≡ true) h.1 w.3);
          })))
          (last-whole (StandsLast at k.items.items) [] ps (g.stalls at d0 mv.within (mv.opened d0) w.0))
    ] in
    record {
      has = g.has;
      quiet = quiet;
      stalls = g.stalls;
      goes = each-last (SomeGoes o f ks) [] ps g.goes last;
    }

-- A worker without an end that stands at a Stall wants an action.
pub stalled-wish : (o : Opening) (c : Codes) (f : Outcomes) (seen : List Entry) (k : Worker) → IsKept o c f seen k → is_stall (last_item k.items.items) ≡ true
    → (a : Action) × (k.wish ≡ Some (Act a))
stalled-wish o c f seen k h s = go k.wish refl
  where
    last : (ahead : List Item) × (k.items.items ≡ ahead ++ Stall ∷ [])
    last = stall-last None k.items.items refl s

    waits : MayWait (want_of f k)
    waits = (stalls-at (want_of f k) last.0 [] (subst (StallsStand (want_of f k)) last.1 h.recorded.stalls)).1

    of-wish : (w : Wish) → told_of w ≡ (outcome_of f k).«end» → (a : Action) × (w ≡ Act a)
    of-wish (Act a) q = (a, refl)
    of-wish (wishes.Ended v) q = absurd (subst (λ e. MayWait (wanted e)) (sym q) waits)
    of-wish (wishes.Exit v) q = absurd (subst (λ e. MayWait (wanted e)) (sym q) waits)
    of-wish (wishes.Fault n p) q = absurd (subst (λ e. MayWait (wanted e)) (sym q) waits)
    of-wish wishes.Budget q = absurd (subst (λ e. MayWait (wanted e)) (sym q) waits)

    go : (w : Option Wish) → k.wish ≡ w → (a : Action) × (k.wish ≡ Some (Act a))
    go None q = absurd (false≢true (sym (h.recorded.goes.idle q) ∙ s))
    go (Some w) q = let a = of-wish w (h.recorded.goes.wished w q).1 in (a.0, q ∙ ap Some a.1)
