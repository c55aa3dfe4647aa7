-- Walks over one item more, and the entries of a thread.
use Rattle.std.proofs.Common.{◌≡◌, ◌≢◌, ℕ, ◌==◌, ◌<◌, ◌≤◌, nat_lt, true, List, [], ◌∷◌, ◌++◌, length, Option, Some, None, refl, sym, ap, subst, ◌∙◌, append-nil, eq-eqb, eqb-true, arith}
use Rattle.std.proofs.lemmas.Bool.{cond_both, cond-true, cond-false, false≢true, false_from_ne_true}
use Rattle.std.proofs.lemmas.List.Elements.{filter-append}
use Rattle.upc_values.specs.declared.action.Action.TheVariants.{Beat}
use Rattle.upc_values.specs.declared.record.Item.{Item}
use Rattle.upc_values.specs.declared.record.Item.TheVariants.{Did, Stall}
use Rattle.upc_values.specs.declared.journal.Entry.{Entry}
use Rattle.upc_values.specs.Lists.{Each}
use Rattle.upc_values.specs.Drain.{Commit, Walk, start, emptied, oldest_out, with_room, stepped, walked_from, walked, entries_of}
use Rattle.upc_values.specs.Records.{last_from, last_item, is_stall, is_beat_item}
use Rattle.upc_values.specs.Ends.{is_pause}

walked_from-push : (t : ℕ) (w : Walk) (xs : List Item) (x : Item)
    → walked_from t w (xs ++ x ∷ []) ≡ stepped t (walked_from t w xs) x
walked_from-push t w [] x = refl
walked_from-push t w (y ∷ xs) x = walked_from-push t (stepped t w y) xs x

-- one item more is one step more
pub walked-push : (t : ℕ) (xs : List Item) (x : Item) → walked t (xs ++ x ∷ []) ≡ stepped t (walked t xs) x
walked-push t xs x = walked_from-push t start xs x

pause-empties : (t : ℕ) (w : Walk) (x : Item) → is_pause (Some x) ≡ true → (stepped t w x).pending ≡ []
pause-empties t w Stall h = refl
pause-empties t w (Did Beat r) h = refl
pause-empties t w (Did a r) h = absurd (false≢true h)

paused-from : (t : ℕ) (w : Walk) (o : Option Item) (xs : List Item) → (is_pause o ≡ true → w.pending ≡ [])
    → is_pause (last_from o xs) ≡ true → (walked_from t w xs).pending ≡ []
paused-from t w o [] h p = h p
paused-from t w o (x ∷ xs) h p = paused-from t (stepped t w x) (Some x) xs (pause-empties t w x) p

-- after a Beat or a Stall nothing is pending
pub paused-empty : (t : ℕ) (xs : List Item) → is_pause (last_item xs) ≡ true → (walked t xs).pending ≡ []
paused-empty t xs p = paused-from t start None xs (λ q. absurd (false≢true q)) p

pub stall-pauses : (o : Option Item) → is_stall o ≡ true → is_pause o ≡ true
stall-pauses o h = cond-true (is_stall o) true (is_beat_item o) h

pub beat-pauses : (o : Option Item) → is_beat_item o ≡ true → is_pause o ≡ true
beat-pauses o h = cond_both (is_stall o) true (is_beat_item o) (λ b. b ≡ true) (λ e. refl) (λ e. h)

-- an empty buffer, emptied
pub emptied-same : (w : Walk) → w.pending ≡ [] → emptied w ≡ w
emptied-same w h =
    let P : List Commit → List Commit → Type 0 =
    λ es ps. emptied w ≡ record { next = w.next; emitted = es; pending = ps; agrees = w.agrees } in
    subst (λ ps. P w.emitted ps) (sym h)
    (subst (λ es. P es []) (ap (λ ps. w.emitted ++ ps) h ∙ append-nil w.emitted) refl)

-- with fewer than 64 pending there is room
pub room-left : (w : Walk) → length w.pending < 64 → with_room w ≡ w
room-left w h = cond-true (nat_lt (length w.pending) 64) w (oldest_out w.pending w) (grind arith)

-- else the oldest leaves
pub room-made : (w : Walk) → 64 ≤ length w.pending → with_room w ≡ oldest_out w.pending w
room-made w h = cond-false (nat_lt (length w.pending) 64) w (oldest_out w.pending w) (grind arith)

pub entries_of-append : (t : ℕ) (xs ys : List Entry) → entries_of t (xs ++ ys) ≡ entries_of t xs ++ entries_of t ys
entries_of-append t xs ys = filter-append (λ e. e.thread == t) xs ys

pub entries-own : (t : ℕ) (e : Entry) → e.thread ≡ t → entries_of t (e ∷ []) ≡ e ∷ []
entries-own t e h = cond-true (e.thread == t) (e ∷ []) [] (eq-eqb e.thread t h)

entries-skip : (t : ℕ) (e : Entry) (es : List Entry) → (e.thread ≢ t) → entries_of t (e ∷ es) ≡ entries_of t es
entries-skip t e es h =
    cond-false (e.thread == t) (e ∷ entries_of t es) (entries_of t es)
    (false_from_ne_true (e.thread == t) (λ q. h (eqb-true e.thread t q)))

-- all entries are t's
pub entries-all : (t : ℕ) (es : List Entry) → Each (λ e. e.thread ≡ t) es → entries_of t es ≡ es
entries-all t [] h = refl
entries-all t (e ∷ es) h =
    cond-true (e.thread == t) (e ∷ entries_of t es) (entries_of t es) (eq-eqb e.thread t h.0)
    ∙ ap (λ l. e ∷ l) (entries-all t es h.1)

-- none is t's
pub entries-other : (t u : ℕ) (es : List Entry) → (u ≢ t) → Each (λ e. e.thread ≡ t) es → entries_of u es ≡ []
entries-other t u [] ne h = refl
entries-other t u (e ∷ es) ne h = entries-skip u e es (λ q. ne (sym q ∙ h.0)) ∙ entries-other t u es ne h.1
