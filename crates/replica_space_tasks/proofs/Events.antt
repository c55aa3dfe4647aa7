-- Lists of events: their actions, those of one thread, and how many messages it has delivered.
use Rattle.std.proofs.Common.{◌≡◌, ℕ, ◌+◌, ◌<◌, ◌%◌, ◌==◌, Bool, false, cond, List, [], ◌∷◌, ◌++◌, refl, sym, ap, subst, ◌∙◌, append-nil, append_assoc, inl, inr, ◌⊎◌}
use Rattle.std.specs.List.{cons_option}
use Rattle.std.proofs.lemmas.Bool.{false≢true, cases_Bool, eq-eqb}
use Rattle.std.proofs.lemmas.List.Elements.{filter_map-append}
use Rattle.upc_values.specs.declared.action.Action.{Action}
use Rattle.upc_values.specs.declared.action.Reply.{Reply}
use Rattle.upc_values.specs.declared.journal.Entry.{Entry}
use Rattle.upc_values.specs.Drain.{entry_of, entries_of}
use Rattle.upc_values.specs.Openings.{Opening}
use Rattle.upc_values.proofs.Membership.{each-append}
use Rattle.upc_values.proofs.Walks.{entries_of-append}
use Rattle.replica_space.specs.declared.message.Message.{Message}
use Rattle.replica_space.specs.declared.event.Event.{Event}
use Rattle.replica_space.specs.declared.event.Deed.{Deed}
use Rattle.replica_space.specs.declared.event.Deed.TheVariants.{Did, Delivered}
use Rattle.replica_space.specs.Events.{did, delivered, entry_by, history_in}
use Rattle.replica_space.specs.Runs.{IsReplicaRun, IsReplicaRunFrom}
use Rattle.replica_space.specs.Spaces.{Space, is_synchronising, space_after}
use Rattle.replica_space.specs.ReplicaSound.{count_after, count_from, delivered_by, ComesTo, AreDelivered}
use Rattle.replica_space_mail.specs.layer.Deliveries.{deliveries, deliveries_to, all_deliveries}
use Rattle.replica_space_tasks.specs.layer.Kept.{AllOf, Grew, AreDeliveredBy, events_of}
use Rattle.replica_space_tasks.specs.code.Dues.{HasTaken}

-- the history in events, one list after another
pub history-append : (xs ys : List Event) → history_in (xs ++ ys) ≡ history_in xs ++ history_in ys
history-append xs ys = filter_map-append (λ e. entry_by e.by e.deed) xs ys

-- ---- events of which none is thread t's

not-first : (t : ℕ) (e : Event) (es : List Event) → events_of t (e ∷ es) ≡ []
    → ((e.by == t) ≡ false) × (events_of t es ≡ [])
not-first t e es h =
    let mine : Bool → List Event = λ b. cond b (e ∷ events_of t es) (events_of t es) in
    elim (cases_Bool (e.by == t)) [
      | inl y ↦ let none : e ∷ events_of t es ≡ [] = sym (ap mine y) ∙ h in absurd cc
      | inr n ↦ (n, sym (ap mine n) ∙ h)
    ]

entry-other : (t u : ℕ) (d : Deed) (es : List Entry) → (u == t) ≡ false
    → entries_of t (cons_option (entry_by u d) es) ≡ entries_of t es
entry-other t u (Did i a r) es n = ap (λ b. cond b (entry_of u i a r ∷ entries_of t es) (entries_of t es)) n
entry-other t u (Delivered to from) es n = refl

-- they have no entry of t
pub entries-none : (t : ℕ) (es : List Event) → events_of t es ≡ [] → entries_of t (history_in es) ≡ []
entries-none t [] h = refl
entries-none t (e ∷ es) h =
    let z = not-first t e es h in entry-other t e.by e.deed (history_in es) z.0 ∙ entries-none t es z.1

pub entries-others : (t : ℕ) (es more : List Event) → events_of t more ≡ []
    → entries_of t (history_in (es ++ more)) ≡ entries_of t (history_in es)
entries-others t es more h =
    ap (entries_of t) (history-append es more) ∙ entries_of-append t (history_in es) (history_in more)
    ∙ ap (λ l. entries_of t (history_in es) ++ l) (entries-none t more h) ∙ append-nil (entries_of t (history_in es))

-- ---- how many messages a thread has delivered

count-append : (t n : ℕ) (xs ys : List Event) → count_from t n (xs ++ ys) ≡ count_from t (count_from t n xs) ys
count-append t n [] ys = refl
count-append t n (x ∷ xs) ys = count-append t (count_after t n x.by x.deed) xs ys

count-other : (t n u : ℕ) (d : Deed) → (u == t) ≡ false → count_after t n u d ≡ n
count-other t n u (Did i a r) h = ap (λ b. cond b 0 n) h
count-other t n u (Delivered to from) h = ap (λ b. cond b (n + 1) n) h

count-none : (t n : ℕ) (es : List Event) → events_of t es ≡ [] → count_from t n es ≡ n
count-none t n [] h = refl
count-none t n (e ∷ es) h =
    let z = not-first t e es h in
    ap (λ m. count_from t m es) (count-other t n e.by e.deed z.0) ∙ count-none t n es z.1

pub counted-others : (t : ℕ) (es more : List Event) → events_of t more ≡ [] → delivered_by t (es ++ more) ≡ delivered_by t es
counted-others t es more h = count-append t 0 es more ∙ count-none t (count_from t 0 es) more h

counted-one : (t to from : ℕ) (es : List Event) → delivered_by t (es ++ delivered t to from ∷ []) ≡ delivered_by t es + 1
counted-one t to from es =
    count-append t 0 es (delivered t to from ∷ [])
    ∙ ap (λ b. cond b (count_from t 0 es + 1) (count_from t 0 es)) (eq-eqb t t refl)

pub counted-did : (t i : ℕ) (a : Action) (r : Reply) (es : List Event) → delivered_by t (es ++ did t i a r ∷ []) ≡ 0
counted-did t i a r es =
    count-append t 0 es (did t i a r ∷ []) ∙ ap (λ b. cond b 0 (count_from t 0 es)) (eq-eqb t t refl)

-- a thread that had delivered none has come to its action with what was due
pub comes-taken : (n t i : ℕ) (old new : List Event) → delivered_by t old ≡ 0 → HasTaken n t i old new → ComesTo n new t i
comes-taken n t i old new h (inl z) =
    inl (ap (delivered_by t) z.1 ∙ counted-one t t (i % n) old ∙ ap (λ m. m + 1) h, old, z.1)
comes-taken n t i old new h (inr z) =
    inr (ap (delivered_by t) z.1 ∙ h, ap (λ l. (space_after n l).mail t (i % n)) z.1 ∙ z.0)

-- ---- deliveries

deliveries-own : (t to from : ℕ) (ms : List Message) → AllOf t (deliveries t to from ms)
deliveries-own t to from [] = tt
deliveries-own t to from (m ∷ ms) = (refl, deliveries-own t to from ms)

to-own : (t to n : ℕ) (s : Space) → AllOf t (deliveries_to t to n s)
to-own t to ℕ.zero s = tt
to-own t to (ℕ.suc n) s =
    each-append (λ (e : Event). e.by ≡ t) (deliveries_to t to n s) (deliveries t to n (s.mail to n)) (to-own t to n s)
    (deliveries-own t to n (s.mail to n))

-- all of them are the thread's
pub all-own : (t k n : ℕ) (s : Space) → AllOf t (all_deliveries t k n s)
all-own t k ℕ.zero s = tt
all-own t k (ℕ.suc n) s =
    each-append (λ (e : Event). e.by ≡ t) (all_deliveries t k n s) (deliveries_to t n k s) (all-own t k n s) (to-own t n k s)

deliveries-quiet : (t to from : ℕ) (ms : List Message) → history_in (deliveries t to from ms) ≡ []
deliveries-quiet t to from [] = refl
deliveries-quiet t to from (m ∷ ms) = deliveries-quiet t to from ms

quiet-append : (xs ys : List Event) → history_in xs ≡ [] → history_in ys ≡ [] → history_in (xs ++ ys) ≡ []
quiet-append xs ys h k = history-append xs ys ∙ ap (λ l. l ++ history_in ys) h ∙ k

to-quiet : (t to n : ℕ) (s : Space) → history_in (deliveries_to t to n s) ≡ []
to-quiet t to ℕ.zero s = refl
to-quiet t to (ℕ.suc n) s =
    quiet-append (deliveries_to t to n s) (deliveries t to n (s.mail to n)) (to-quiet t to n s)
    (deliveries-quiet t to n (s.mail to n))

-- and none is an action
pub all-quiet : (t k n : ℕ) (s : Space) → history_in (all_deliveries t k n s) ≡ []
all-quiet t k ℕ.zero s = refl
all-quiet t k (ℕ.suc n) s =
    quiet-append (all_deliveries t k n s) (deliveries_to t n k s) (all-quiet t k n s) (to-quiet t n k s)

-- ---- what a thread has delivered before its actions

-- an event of two lists, one after the other, is of the first or of the second
split : (xs more before rest : List Event) (x : Event) → xs ++ more ≡ before ++ x ∷ rest
    → ((r : List Event) × (xs ≡ before ++ x ∷ r)) ⊎ ((mid : List Event) × (before ≡ xs ++ mid) × (more ≡ mid ++ x ∷ rest))
split [] more before rest x h = inr (before, refl, h)
split (y ∷ xs) more [] rest x h = let e : y ≡ x = cc in inl (xs, ap (λ z. z ∷ xs) e)
split (y ∷ xs) more (b ∷ before) rest x h =
    let e : y ≡ b = cc in let t : xs ++ more ≡ before ++ x ∷ rest = cc in
    elim (split xs more before rest x t) [
      | inl z ↦ inl (z.0, ap (λ l. y ∷ l) z.1 ∙ ap (λ w. w ∷ before ++ x ∷ z.0) e)
      | inr z ↦ inr (z.0, ap (λ l. b ∷ l) z.1 ∙ ap (λ w. w ∷ xs ++ z.0) (sym e), z.2)
    ]

delivers-append : (n t : ℕ) (es more : List Event) → AreDeliveredBy n t es
    → ((mid rest : List Event) (i : ℕ) (a : Action) (r : Reply) → more ≡ mid ++ did t i a r ∷ rest → is_synchronising a ≡ false
    → ComesTo n (es ++ mid) t i)
    → AreDeliveredBy n t (es ++ more)
delivers-append n t es more h k = λ before rest i a r e s.
    elim (split es more before rest (did t i a r) e) [
      | inl z ↦ h before z.0 i a r z.1 s
      | inr z ↦ subst (λ l. ComesTo n l t i) (sym z.1) (k z.0 rest i a r z.2 s)
    ]

has-own : (t i : ℕ) (a : Action) (r : Reply) (mid rest : List Event) → events_of t (mid ++ did t i a r ∷ rest) ≡ [] → ⊥
has-own t i a r [] rest h = false≢true (sym (not-first t (did t i a r) rest h).0 ∙ eq-eqb t t refl)
has-own t i a r (e ∷ mid) rest h = has-own t i a r mid rest (not-first t e (mid ++ did t i a r ∷ rest) h).1

-- with events of others
pub delivers-others : (n t : ℕ) (es more : List Event) → events_of t more ≡ [] → AreDeliveredBy n t es → AreDeliveredBy n t (es ++ more)
delivers-others n t es more none h =
    delivers-append n t es more h (λ mid rest i a r e s. absurd (has-own t i a r mid rest (sym (ap (events_of t) e) ∙ none)))

no-entry : (xs ys : List Entry) (e : Entry) → xs ++ e ∷ ys ≡ [] → ⊥
no-entry [] ys e h = absurd cc
no-entry (x ∷ xs) ys e h = absurd cc

-- with events that are no actions
pub delivers-quiet : (n t : ℕ) (es more : List Event) → history_in more ≡ [] → AreDeliveredBy n t es → AreDeliveredBy n t (es ++ more)
delivers-quiet n t es more none h =
    delivers-append n t es more h
    (λ mid rest i a r e s. absurd (no-entry (history_in mid) (history_in rest) (entry_of t i a r)
    (sym (history-append mid (did t i a r ∷ rest)) ∙ sym (ap history_in e) ∙ none)))

one-did : (n t i j : ℕ) (a b : Action) (r s : Reply) (es mid rest : List Event) → did t i a r ∷ [] ≡ mid ++ did t j b s ∷ rest
    → (is_synchronising a ≡ false → ComesTo n es t i) → is_synchronising b ≡ false → ComesTo n (es ++ mid) t j
one-did n t i j a b r s es [] rest e h q =
    let first : did t i a r ≡ did t j b s = cc in
    let deed : Did i a r ≡ Did j b s = ap (λ (x : Event). x.deed) first in
    let index : i ≡ j = cc in let action : a ≡ b = cc in
    subst (λ l. ComesTo n l t j) (sym (append-nil es))
    (subst (ComesTo n es t) index (h (ap is_synchronising action ∙ q)))
one-did n t i j a b r s es (x ∷ []) rest e h q = absurd cc
one-did n t i j a b r s es (x ∷ y ∷ mid) rest e h q = absurd cc

-- with an action
pub delivers-did : (n t i : ℕ) (a : Action) (r : Reply) (es : List Event) → AreDeliveredBy n t es
    → (is_synchronising a ≡ false → ComesTo n es t i) → AreDeliveredBy n t (es ++ did t i a r ∷ [])
delivers-did n t i a r es h comes =
    delivers-append n t es (did t i a r ∷ []) h (λ mid rest j b s e q. one-did n t i j a b r s es mid rest e comes q)

-- ---- all threads

by-below : (o : Opening) (front before rest : List Event) (e : Event) → IsReplicaRunFrom o front (before ++ e ∷ rest) → e.by < o.threads
by-below o front [] rest e h = h.0
by-below o front (b ∷ before) rest e h = by-below o (front ++ b ∷ []) before rest e h.2

-- a run in which each thread so delivers
pub run-delivers : (o : Opening) (events : List Event) → IsReplicaRun o events
    → ((t : ℕ) → t < o.threads → AreDeliveredBy o.threads t events) → AreDelivered o.threads events
run-delivers o events run h = λ before rest t i a r e s.
    h t (by-below o [] before rest (did t i a r) (subst (IsReplicaRunFrom o []) e run)) before rest i a r e s

-- ---- growth

pub grew-same : (t : ℕ) (old new : List Event) → new ≡ old → Grew t old new
grew-same t old new h = record { more = []; is = h ∙ sym (append-nil old); all_own = tt }

pub grew-then : (t : ℕ) (old mid new : List Event) → Grew t old mid → Grew t mid new → Grew t old new
grew-then t old mid new g h = record {
  more = g.more ++ h.more;
  is = h.is ∙ ap (λ l. l ++ h.more) g.is ∙ append_assoc old g.more h.more;
  all_own = each-append (λ (e : Event). e.by ≡ t) g.more h.more g.all_own h.all_own;
}
