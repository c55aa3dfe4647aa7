-- How threads stand: what a step, a part in a round and a pick make of it.
use Rattle.std.proofs.Common.{◌≡◌, ◌≢◌, ℕ, ◌+◌, ◌<◌, ◌≤◌, ◌%◌, nat_lt, arith, true, false, cond, List, [], ◌∷◌, ◌++◌, map, take, length, Option, Some, None, is_some, refl, sym, ap, subst, ◌∙◌, append-nil, append_assoc, inl, inr, get_or}
use Rattle.std.specs.Prelude.{count_by}
use Rattle.std.proofs.lemmas.Bool.{cases_Bool, false≢true, cond-false, ltb-true, ltb-false}
use Rattle.std.proofs.lemmas.List.Folds.{fold-map}
use Rattle.std.proofs.lemmas.List.{length-map, get_or-map, take-map, take_more, get_or_past}
use Rattle.upc_values.specs.declared.action.Action.{Action}
use Rattle.upc_values.specs.declared.record.Item.{Item}
use Rattle.upc_values.specs.declared.record.Item.TheVariants.{Did, Stall}
use Rattle.upc_values.specs.declared.record.End.{End}
use Rattle.upc_values.specs.declared.journal.Entry.{Entry}
use Rattle.upc_values.specs.Lists.{Each, Numbered}
use Rattle.upc_values.specs.Records.{last_item, is_stall, is_beat_item}
use Rattle.upc_values.specs.Drain.{entries_in, walked, entries_of}
use Rattle.upc_values.specs.Openings.{Opening}
use Rattle.upc_values.specs.Ends.{stops, is_pause}
use Rattle.upc_values.proofs.Lists.{each-push}
use Rattle.upc_values.proofs.Walks.{stall-pauses, beat-pauses}
use Rattle.stack_code.specs.layer.Codes.{Codes}
use Rattle.stack_machine.specs.declared.wish.Wish.{Wish}
use Rattle.stack_machine.specs.declared.wish.Wish.TheVariants.{Act}
use Rattle.upc_task.specs.layer.Kept.{Worker}
use Rattle.upc_task.specs.declared.worker.Pause.{Pause}
use Rattle.upc_task.specs.declared.worker.Pause.TheVariants as pauses
use Rattle.upc_task.specs.layer.Sources.{Outcomes}
use Rattle.upc_task.specs.Ends.{is_given}
use Rattle.upc_task.specs.layer.Kept.{settled, IsPausing, Paused, Adds, Leaves, Waits, end_or, strand_of}
use Rattle.upc_rounds_teams.specs.layer.Course.{Standing, Moment, goes_on, rests, IsQuiet, IsStopped, Grows, IsDrained, IsLater, Steps, Obeys, AreObeyed, TakesPart, ToRest, EachGoes, IsStrandOf, AreOf, IsOutset}
use Rattle.upc_rounds_teams.specs.layer.Runs.{IsAt, IsRunning, IsIdle, AreSame, OthersStay, IsChosen, open_among, Rested, StopsAt, NoneStops, Wanting, AreEach, halted, halted_end, locked, locked_end, standing_of, moment_of, GoesAt}
use Rattle.upc_task.proofs.Lists.{numbered-map, some-of}
use Rattle.upc_task.proofs.Options.{none-some, none-is}

-- The standing with these items and this end
abbrev pub with : List Item → Option End → Standing
with items e = record { items = items; «end» = e }

with-is : (k : Worker) (items : List Item) (e : Option End) → k.items.items ≡ items → k.«end» ≡ e → standing_of k ≡ with items e
with-is k items e h q = ap (λ z. with z k.«end») h ∙ ap (with items) q

-- A task between two steps
pub idle-of : (p : Pause) (o : Opening) (seen : List Entry) (wish : Option Wish) (m : Worker) → Paused p m → Leaves p wish m.wish → Waits p o seen m → IsIdle m
idle-of pauses.Going o seen wish m h l w = λ q s. absurd (false≢true (sym (ap is_some l) ∙ s))
idle-of pauses.Beat o seen wish m h l w = λ q s. absurd (false≢true (sym (ap is_some l) ∙ s))
idle-of pauses.Stalled o seen wish m h l w = λ q s. w.2
idle-of pauses.Finished o seen wish m h l w = λ q s. absurd (none-some m.«end» h.0 q h.1)

-- A step
pub steps-of : (p : Pause) (o : Opening) (seen : List Entry) (wish : Option Wish) (k m : Worker) → k.«end» ≡ None → Paused p m → Adds p wish k.items.items m.items.items → Waits p o seen m
    → Steps (standing_of k) (standing_of m)
steps-of pauses.Going o seen wish k m q h a w = (q, inl (Did a.0 a.1, with-is m (k.items.items ++ Did a.0 a.1 ∷ []) None a.4 h))
steps-of pauses.Beat o seen wish k m q h a w = (q, inl (Did a.0 a.1, with-is m (k.items.items ++ Did a.0 a.1 ∷ []) None a.4 h.0))
steps-of pauses.Stalled o seen wish k m q h a w = (
  q,
  elim a [
    | inl same ↦ inr (inl (subst (λ xs. is_stall (last_item xs) ≡ true) same w.2, with-is m k.items.items None same h.0 ∙ sym (with-is k k.items.items None refl q)))
    | inr gained ↦ inl (Stall, with-is m (k.items.items ++ Stall ∷ []) None gained h.0)
  ],
)
steps-of pauses.Finished o seen wish k m q h a w = (q, inr (inr (h.0, h.2, with-is m k.items.items (Some h.0) a h.1)))

-- An item that is no Beat
pub going-of : (wish : Option Wish) (xs ys : List Item) → Adds pauses.Going wish xs ys → (x : Item) × (is_pause (Some x) ≡ false) × (ys ≡ xs ++ x ∷ [])
going-of wish xs ys a = (Did a.0 a.1, a.2, a.4)

pub pausing-pauses : (k : Worker) → IsPausing k → is_pause (last_item k.items.items) ≡ true
pausing-pauses k h = elim h [
  | inl b ↦ beat-pauses (last_item k.items.items) b.0
  | inr s ↦ stall-pauses (last_item k.items.items) s.0
]

-- Rest, of a task and of its standing
pub rested-rests : (k : Worker) → Rested k → rests (standing_of k) ≡ true
rested-rests k h =
    let go : (o : Option End) → k.«end» ≡ o → rests (with k.items.items o) ≡ true = λ o. elim o as (λ o. k.«end» ≡ o → rests (with k.items.items o) ≡ true) [
      | None ↦ λ q. pausing-pauses k (h q)
      | Some e ↦ λ q. refl
    ] in go k.«end» refl

pub rests-rested : (op : Opening) (p : Codes) (f : Outcomes) (seen : List Entry) (i : ℕ) (k : Worker) → IsAt op p f seen i k → IsIdle k → rests (standing_of k) ≡ true → Rested k
rests-rested op p f seen i k a idle h = λ q.
    let last = last_item k.items.items in
    let pause : is_pause last ≡ true = subst (λ o. rests (with k.items.items o) ≡ true) q h in
    elim (cases_Bool (is_stall last)) [
      | inl s ↦ elim (cases_Bool (is_some k.wish)) [
        | inl w ↦ inr (s, w)
        | inr n ↦ absurd (false≢true (sym (a.kept.recorded.goes.idle (none-is k.wish n)) ∙ s))
      ]
      | inr off ↦
          let beat : is_beat_item last ≡ true = sym (cond-false (is_stall last) true (is_beat_item last) off) ∙ pause in
          elim (cases_Bool (is_some k.wish)) [
            | inl w ↦ absurd (false≢true (sym off ∙ idle q w))
            | inr n ↦ inl (beat, none-is k.wish n)
          ]
    ]

pub unrested-open : (k : Worker) → rests (standing_of k) ≡ false → k.«end» ≡ None
unrested-open k h =
    let go : (o : Option End) → k.«end» ≡ o → rests (with k.items.items o) ≡ false → o ≡ None = λ o. elim o as (λ o. k.«end» ≡ o → rests (with k.items.items o) ≡ false → o ≡ None) [
      | None ↦ λ q z. refl
      | Some e ↦ λ q z. absurd (false≢true (sym z))
    ] in go k.«end» refl h

-- Moments
pub drained-of : (p : Codes) (f : Outcomes) (w : Opening × List Entry) (ks : List Worker) → IsRunning w.0 p f w.1 ks → IsDrained (moment_of w ks)
drained-of p f w ks r =
    numbered-map standing_of (λ i k. IsAt w.0 p f w.1 i k) (λ t s. entries_of t w.1 ≡ entries_in (settled s.«end» (walked t s.items)).emitted)
    (λ i k a. subst (λ t. entries_of t w.1 ≡ entries_in (settled k.«end» (walked t k.items.items)).emitted) a.thread a.kept.holds.out) ks r.tasks

pub later-of : (p : Codes) (f : Outcomes) (w x : Opening × List Entry) (ks ms : List Worker) → IsRunning x.0 p f x.1 ms → length ms ≡ length ks → Grows w.1 x.1
    → IsLater (moment_of w ks) (moment_of x ms)
later-of p f w x ks ms r same g = record {
  many = length-map ms standing_of ∙ same ∙ sym (length-map ks standing_of);
  grows = g;
  drained = drained-of p f x ms r;
}

pub each-of : (R : Standing → Standing → Type 0) (w x : Opening × List Entry) (ks ms : List Worker) → length ms ≡ length ks
    → ((i : ℕ) (d : Worker) → i < length ks → R (standing_of (get_or ks i d)) (standing_of (get_or ms i d)))
    → EachGoes R (moment_of w ks) (moment_of x ms)
each-of R w x ks ms same h = λ t d lt.
    let l : t < length ks = subst (λ n. t < n) (length-map ks standing_of) lt in
    let k = some-of ks t l in
    subst (λ s. R s (get_or (map standing_of ms) t d)) (sym (get_or-map standing_of ks t k d l))
    (subst (R (standing_of (get_or ks t k))) (sym (get_or-map standing_of ms t k d (subst (λ n. t < n) (sym same) l))) (h t k l))

pub quiet-of : (w : Opening × List Entry) (ks : List Worker) → NoneStops ks → IsQuiet (moment_of w ks)
quiet-of w ks h = numbered-map standing_of (λ i k. (e : End) → k.«end» ≡ Some e → stops e ≡ false) (λ t s. (e : End) → s.«end» ≡ Some e → stops e ≡ false) (λ i k q. q) ks h

pub stopped-of : (w : Opening × List Entry) (ks : List Worker) (u : ℕ) → StopsAt ks u → IsStopped (moment_of w ks)
stopped-of w ks u h = (
  u,
  subst (λ n. u < n) (sym (length-map ks standing_of)) h.0,
  λ d. let k = some-of ks u h.0 in
      subst (λ s. (e : End) × (s.«end» ≡ Some e) × (stops e ≡ true)) (sym (get_or-map standing_of ks u k d h.0)) (h.1 k),
)

pub count-of : (ks : List Worker) → count_by goes_on (map standing_of ks) ≡ open_among ks
count-of ks = fold-map (λ a s. a + cond (goes_on s) 1 0) standing_of 0 ks

-- An end that has ended the run stays
pub stays-stopped : (ks ms : List Worker) → length ms ≡ length ks
    → ((i : ℕ) (d : Worker) → i < length ks → ToRest (standing_of (get_or ks i d)) (standing_of (get_or ms i d)))
    → (u : ℕ) → StopsAt ks u → StopsAt ms u
stays-stopped ks ms same h u s = (
  subst (λ n. u < n) (sym same) s.0,
  λ d. let e = s.1 d in let k = get_or ks u d in let m = get_or ms u d in
      let yes : rests (standing_of k) ≡ true = ap (λ o. rests (with k.items.items o)) e.1 in
      let is : standing_of m ≡ standing_of k = elim (h u d s.0) [
        | inl z ↦ z.1
        | inr z ↦ absurd (false≢true (sym z.0 ∙ yes))
      ] in
      (e.0, ap (λ z. z.«end») is ∙ e.1, e.2),
)

others-of : (ks ms : List Worker) (t at : ℕ) (d : Standing) → length ms ≡ length ks → (t ≢ at) → OthersStay at ks ms → get_or (map standing_of ms) t d ≡ get_or (map standing_of ks) t d
others-of ks ms t at d same ne h =
    let many-ks : length (map standing_of ks) ≡ length ks = length-map ks standing_of in
    let many-ms : length (map standing_of ms) ≡ length ms = length-map ms standing_of in
    elim (cases_Bool (nat_lt t (length ks))) [
      | inl q ↦ let l : t < length ks = ltb-true t (length ks) q in let k = some-of ks t l in
          get_or-map standing_of ms t k d (subst (λ n. t < n) (sym same) l) ∙ ap standing_of (h t k ne) ∙ sym (get_or-map standing_of ks t k d l)
      | inr n ↦ let g : length ks ≤ t = ltb-false t (length ks) n in
          get_or_past (map standing_of ms) t d (omega (arith, g, same, many-ms)) ∙ sym (get_or_past (map standing_of ks) t d (omega (arith, g, many-ks)))
    ]

-- A pick
pub obeys-of : (p : Codes) (f : Outcomes) (w x : Opening × List Entry) (ks ms : List Worker) (pick at : ℕ) → NoneStops ks → IsChosen ks pick at → IsRunning x.0 p f x.1 ms
    → AreSame ks ms → OthersStay at ks ms → GoesAt Steps at ks ms → Grows w.1 x.1 → Obeys pick (moment_of w ks) (moment_of x ms)
obeys-of p f w x ks ms pick at quiet ch r same others steps g =
    let k = some-of ks at ch.within in
    record {
      quiet = quiet-of w ks quiet;
      at = at;
      within = subst (λ n. at < n) (sym (length-map ks standing_of)) ch.within;
      chosen = ap (count_by goes_on) (take-map standing_of at ks) ∙ count-of (take at ks) ∙ ch.number ∙ ap (λ n. pick % n) (sym (count-of ks));
      step = λ d.
          subst (λ s. Steps s (get_or (map standing_of ms) at d)) (sym (get_or-map standing_of ks at k d ch.within))
          (subst (Steps (standing_of (get_or ks at k))) (sym (get_or-map standing_of ms at k d (subst (λ n. at < n) (sym same.many) ch.within))) (steps k));
      others = λ t d ne. others-of ks ms t at d same.many ne others;
      later = later-of p f w x ks ms r same.many g;
    }

obeyed-push : (picks : List ℕ) (pick : ℕ) (m mid n : Moment) → AreObeyed picks m mid → Obeys pick mid n → AreObeyed (picks ++ pick ∷ []) m n
obeyed-push [] pick m mid n h o = (n, subst (λ z. Obeys pick z n) h o, refl)
obeyed-push (p ∷ picks) pick m mid n h o = (h.0, h.1, obeyed-push picks pick h.0 mid n h.2 o)

-- The next pick is obeyed
pub obeyed-more : (picks : List ℕ) (i d : ℕ) (m mid n : Moment) → i < length picks → AreObeyed (take i picks) m mid → Obeys (get_or picks i d) mid n
    → AreObeyed (take (i + 1) picks) m n
obeyed-more picks i d m mid n lt h o =
    subst (λ z. AreObeyed z m n) (sym (take_more picks i d lt)) (obeyed-push (take i picks) (get_or picks i d) m mid n h o)

-- A history that grows twice
pub grows-refl : (xs : List Entry) → Grows xs xs
grows-refl xs = ([], sym (append-nil xs))

pub grows-trans : (xs ys zs : List Entry) → Grows xs ys → Grows ys zs → Grows xs zs
grows-trans xs ys zs g h = (g.0 ++ h.0, h.1 ∙ ap (λ l. l ++ h.0) g.1 ∙ append_assoc xs g.0 h.0)

-- A part in a round that has not reached its rest
abbrev pub Going : Standing → Standing → Type 0
Going s u = (items : List Item) × Each (λ x. is_pause (Some x) ≡ false) items × (u ≡ with (s.items ++ items) None)

pub going-new : (k : Worker) → k.«end» ≡ None → Going (standing_of k) (standing_of k)
going-new k q = ([], tt, with-is k (k.items.items ++ []) None (sym (append-nil k.items.items)) q)

pub going-more : (k l m : Worker) (wish : Option Wish) → Going (standing_of k) (standing_of l) → Adds pauses.Going wish l.items.items m.items.items → m.«end» ≡ None
    → Going (standing_of k) (standing_of m)
going-more k l m wish g a q =
    let x = going-of wish l.items.items m.items.items a in (
      g.0 ++ x.0 ∷ [],
      each-push (λ x. is_pause (Some x) ≡ false) g.0 x.0 g.1 x.1,
      with-is m (k.items.items ++ (g.0 ++ x.0 ∷ [])) None
          (x.2 ∙ ap (λ s. s.items ++ x.0 ∷ []) g.2 ∙ append_assoc k.items.items g.0 (x.0 ∷ [])) q,
    )

pub part-of : (k l m : Worker) → k.«end» ≡ None → Going (standing_of k) (standing_of l) → Steps (standing_of l) (standing_of m) → Rested m
    → TakesPart (standing_of k) (standing_of m)
part-of k l m q g st r = record {
  opened = q;
  items = g.0;
  going = g.1;
  last = subst (λ s. Steps s (standing_of m)) g.2 st;
  rested = rested-rests m r;
}

-- A moment that the tasks' strands are of
pub strands-of : (w : Opening × List Entry) (ks ms : List Worker) → length ms ≡ length ks
    → ((f : Outcomes) (i : ℕ) (d : Worker) → i < length ks → IsStrandOf (standing_of (get_or ks i d)) (strand_of f (get_or ms i d)))
    → (f : Outcomes) → AreOf (moment_of w ks) w.1 (map (strand_of f) ms)
strands-of w ks ms same h f = record {
  same = refl;
  many = length-map ms (strand_of f) ∙ same ∙ sym (length-map ks standing_of);
  each = λ t d r lt.
      let l : t < length ks = subst (λ n. t < n) (length-map ks standing_of) lt in
      let k = some-of ks t l in
      subst (λ s. IsStrandOf s (get_or (map (strand_of f) ms) t r)) (sym (get_or-map standing_of ks t k d l))
      (subst (IsStrandOf (standing_of (get_or ks t k))) (sym (get_or-map (strand_of f) ms t k r (subst (λ n. t < n) (sym same) l))) (h f t k l));
}

strand-halted : (f : Outcomes) (k : Worker) → IsStrandOf (standing_of k) (strand_of f (halted k))
strand-halted f k = record {
  items = refl;
  own = λ e q. ap (λ o. end_or (halted_end o)) q;
  given = λ q. ap (λ o. is_given (end_or (halted_end o))) q;
}

locked-own : (w : Option Wish) (e : End) → end_or (locked_end w (Some e)) ≡ e
locked-own None e = refl
locked-own (Some w) e = refl

strand-locked : (f : Outcomes) (k : Worker) → (k.«end» ≡ None → (a : Action) × (k.wish ≡ Some (Act a))) → IsStrandOf (standing_of k) (strand_of f (locked k))
strand-locked f k h = record {
  items = refl;
  own = λ e q. ap (λ o. end_or (locked_end k.wish o)) q ∙ locked-own k.wish e;
  given = λ q. ap (λ o. is_given (end_or (locked_end k.wish o))) q ∙ ap (λ w. is_given (end_or (locked_end w None))) (h q).1;
}

strand-ended : (f : Outcomes) (k : Worker) → is_some k.«end» ≡ true → IsStrandOf (standing_of k) (strand_of f k)
strand-ended f k h = record {
  items = refl;
  own = λ e q. ap end_or q;
  given = λ q. absurd (false≢true (sym (ap is_some q) ∙ h));
}

pub out-halted : (w : Opening × List Entry) (ks ms : List Worker) → AreEach halted ks ms → (f : Outcomes) → AreOf (moment_of w ks) w.1 (map (strand_of f) ms)
out-halted w ks ms e = strands-of w ks ms e.many
    (λ f i d lt. subst (λ m. IsStrandOf (standing_of (get_or ks i d)) (strand_of f m)) (sym (e.each i d lt)) (strand-halted f (get_or ks i d)))

pub out-locked : (w : Opening × List Entry) (o : Opening) (seen : List Entry) (ks ms : List Worker) → Numbered (λ j k. k.«end» ≡ None → Wanting o seen k) ks → AreEach locked ks ms
    → (f : Outcomes) → AreOf (moment_of w ks) w.1 (map (strand_of f) ms)
out-locked w o seen ks ms want e = strands-of w ks ms e.many
    (λ f i d lt. subst (λ m. IsStrandOf (standing_of (get_or ks i d)) (strand_of f m)) (sym (e.each i d lt))
    (strand-locked f (get_or ks i d) (λ q. let z = want i d lt q in (z.action, z.wish_is))))

pub out-ended : (w : Opening × List Entry) (ks : List Worker) → Numbered (λ j k. is_some k.«end» ≡ true) ks → (f : Outcomes) → AreOf (moment_of w ks) w.1 (map (strand_of f) ks)
out-ended w ks h = strands-of w ks ks refl (λ f i d lt. strand-ended f (get_or ks i d) (h i d lt))

-- What a run begins with
pub outset-of : (n : ℕ) (w : Opening × List Entry) (ks : List Worker) → length ks ≡ n → Numbered (λ i k. standing_of k ≡ with [] None) ks → w.1 ≡ [] → IsOutset n (moment_of w ks)
outset-of n w ks many new empty = record {
  many = length-map ks standing_of ∙ many;
  none = numbered-map standing_of (λ i k. standing_of k ≡ with [] None) (λ t s. s ≡ with [] None) (λ i k q. q) ks new;
  empty = empty;
}
