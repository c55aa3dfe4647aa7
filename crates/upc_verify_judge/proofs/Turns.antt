-- A history whose threads' records emit their entries: its threads notify and wait in turn as their sources do.
use Rattle.std.proofs.Common.{◌≡◌, ℕ, ◌+◌, ◌<◌, ◌≤◌, ◌==◌, nat_lt, Bool, true, false, ◌&&◌, cond, List, [], ◌∷◌, ◌++◌, length, map, Option, Some, None, is_some, refl, sym, ap, subst, ◌∙◌, append_assoc, arith}
use Rattle.std.specs.List.{count_by}
use Rattle.std.proofs.lemmas.Bool.{cond_both, le-leb}
use Rattle.std.proofs.lemmas.List.{map-append}
use Rattle.block_layout.specs.declared.place.Loc.{Loc}
use Rattle.upc_values.specs.declared.scalar.Scalar.{Scalar}
use Rattle.upc_values.specs.declared.action.Action.{Action}
use Rattle.upc_values.specs.declared.action.Action.TheVariants.{Read, Write, Notify, Print}
use Rattle.upc_values.specs.declared.action.Reply.{Reply}
use Rattle.upc_values.specs.declared.record.Item.{Item}
use Rattle.upc_values.specs.declared.record.Item.TheVariants.{Did, Stall}
use Rattle.upc_values.specs.declared.journal.Entry.{Entry}
use Rattle.upc_values.specs.Lists.{Each}
use Rattle.upc_values.specs.Drain.{Commit, commit_of, entries_in, Walk, start, emptied, oldest_out, with_room, passed, stored, pending_value, changed, combined, put_pending, looked_up, gone, walked_from, walked, entry_of, entries_of, drain}
use Rattle.upc_values.specs.History.{is_notify, is_wait, notifies, waits}
use Rattle.upc_values.specs.Records.{actions_of}
use Rattle.upc_values.proofs.Drained.{read-entries}
use Rattle.upc_values.proofs.Membership.{each-append}
use Rattle.upc_values.proofs.Walks.{entries_of-append, entries-own}
use Rattle.thread_steps.specs.layer.Fronts.{turned, IsInTurn}
use Rattle.thread_steps.specs.layer.Parts.{turned_by}
use Rattle.collective_laws_histories.proofs.Lists.{count-filter, count-cons}
use Rattle.collective_laws_histories.proofs.Turning.{turned-append, none-turned_by, closed-before}
use Rattle.memory_history.specs.layer.Turns.{takes_turn}
use Rattle.upc_verify_history.specs.layer.Turns.{AreInTurnFrom, AreInTurn}

-- What entries did.
abbrev pub acts : List Entry → List Action
acts es = map (λ e. e.action) es

-- ---- what a record emits

-- It is no notify and no wait.
abbrev IsStill : Entry → Type 0
IsStill e = (s : Option Bool) → turned s e.action ≡ s

still-write : (k : Bool) (l : Loc) (v : Scalar) (s : Option Bool) → turned s (Write k l v) ≡ s
still-write k l v None = refl
still-write k l v (Some true) = refl
still-write k l v (Some false) = refl

still-read : (l : Loc) (k : Bool) (s : Option Bool) → turned s (Read l k) ≡ s
still-read l k None = refl
still-read l k (Some true) = refl
still-read l k (Some false) = refl

still-none : (s : Option Bool) (es : List Entry) → Each IsStill es → turned_by s (acts es) ≡ s
still-none s [] h = refl
still-none s (e ∷ es) h = ap (λ z. turned_by z (acts es)) (h.0 s) ∙ still-none s es h.1

-- What was emitted leaves a notify open or not, and no notify and no wait is pending.
abbrev Turned : Option Bool → Walk → Type 0
Turned s w = (turned_by (Some false) (acts (entries_in w.emitted)) ≡ s) × Each IsStill (entries_in w.pending)

more-acts : (cs ds : List Commit) → turned_by (Some false) (acts (entries_in (cs ++ ds)))
    ≡ turned_by (turned_by (Some false) (acts (entries_in cs))) (acts (entries_in ds))
more-acts cs ds =
    ap (λ l. turned_by (Some false) (acts l)) (map-append (λ c. c.entry) cs ds)
    ∙ ap (turned_by (Some false)) (map-append (λ (e : Entry). e.action) (entries_in cs) (entries_in ds))
    ∙ turned-append (Some false) (acts (entries_in cs)) (acts (entries_in ds))

more : (s : Option Bool) (cs ds : List Commit) → turned_by (Some false) (acts (entries_in cs)) ≡ s
    → Each IsStill (entries_in ds) → turned_by (Some false) (acts (entries_in (cs ++ ds))) ≡ s
more s cs ds h p =
    more-acts cs ds ∙ still-none (turned_by (Some false) (acts (entries_in cs))) (entries_in ds) p ∙ h

turned-emptied : (s : Option Bool) (w : Walk) → Turned s w → Turned s (emptied w)
turned-emptied s w h = (more s w.emitted w.pending h.0 h.1, tt)

turned-oldest : (s : Option Bool) (w : Walk) (cs : List Commit) → w.pending ≡ cs → Turned s w → Turned s (oldest_out cs w)
turned-oldest s w [] q h = h
turned-oldest s w (c ∷ cs) q h =
    let p : Each IsStill (entries_in (c ∷ cs)) = subst (λ z. Each IsStill (entries_in z)) q h.1 in
    (more s w.emitted (c ∷ []) h.0 (p.0, tt), p.1)

turned-room : (s : Option Bool) (w : Walk) → Turned s w → Turned s (with_room w)
turned-room s w h =
    cond_both (nat_lt (length w.pending) 64) w (oldest_out w.pending w) (Turned s) (λ _. h) (λ _. turned-oldest s w w.pending refl h)

turned-stored : (s : Option Bool) (e : Entry) (w : Walk) → IsStill e → Turned s w → Turned s (stored e w)
turned-stored s e w p h = (
  h.0,
  subst (Each IsStill) (sym (map-append (λ c. c.entry) w.pending (commit_of e ∷ [])))
      (each-append IsStill (entries_in w.pending) (e ∷ []) h.1 (p, tt)),
)

still-changed : (l : Loc) (e : Entry) (cs : List Commit) → IsStill e → Each IsStill (entries_in cs)
    → Each IsStill (entries_in (changed l (combined e) cs))
still-changed l e [] p h = tt
still-changed l e (c ∷ cs) p h =
    cond_both (is_some (pending_value l cs)) (c ∷ changed l (combined e) cs) (combined e c ∷ cs)
    (λ z. Each IsStill (entries_in z)) (λ _. (h.0, still-changed l e cs p h.1)) (λ _. (p, h.1))

turned-put : (s : Option Bool) (l : Loc) (e : Entry) (f : Option Scalar) (w : Walk) → IsStill e → Turned s w → Turned s (put_pending l e f w)
turned-put s l e None w p h = turned-stored s e (with_room w) p (turned-room s w h)
turned-put s l e (Some v) w p h = (h.0, still-changed l e w.pending p h.1)

turned-passed : (s : Option Bool) (e : Entry) (w : Walk) → Turned s w → Turned (turned s e.action) (passed e w)
turned-passed s e w h = (more-acts w.emitted (commit_of e ∷ []) ∙ ap (λ z. turned z e.action) h.0, h.1)

turned-looked : (s : Option Bool) (l : Loc) (e : Entry) (f : Option Scalar) (w : Walk) → IsStill e → Turned s w
    → Turned (turned s e.action) (looked_up l e f w)
turned-looked s l e None w p h = turned-passed s e w h
turned-looked s l e (Some v) w p h =
    (h.0 ∙ sym (p s), subst (Each IsStill) (sym (read-entries l e w.pending)) h.1)

turned-gone : (t i : ℕ) (a : Action) (r : Reply) (s : Option Bool) (w : Walk) → Turned s w
    → Turned (turned s a) (gone (entry_of t i a r) a w)
turned-gone t i (Read l false) r s w h =
    turned-looked s l (entry_of t i (Read l false) r) (pending_value l w.pending) w (still-read l false) h
turned-gone t i (Read l true) r s w h = turned-passed s (entry_of t i (Read l true) r) (emptied w) (turned-emptied s w h)
turned-gone t i (Write false l v) r s w h =
    let e = entry_of t i (Write false l v) r in
    subst (λ z. Turned z (put_pending l e (pending_value l w.pending) w)) (sym (still-write false l v s))
    (turned-put s l e (pending_value l w.pending) w (still-write false l v) h)
turned-gone t i (Write true l v) r s w h = turned-passed s (entry_of t i (Write true l v) r) (emptied w) (turned-emptied s w h)
turned-gone t i (Print x) r s w h = turned-passed s (entry_of t i (Print x) r) w h
turned-gone t i a r s w h = turned-passed s (entry_of t i a r) (emptied w) (turned-emptied s w h)

turned-walked : (t : ℕ) (xs : List Item) (s : Option Bool) (w : Walk) → Turned s w → Turned (turned_by s (actions_of xs)) (walked_from t w xs)
turned-walked t [] s w h = h
turned-walked t (Stall ∷ xs) s w h = turned-walked t xs s (emptied w) (turned-emptied s w h)
turned-walked t (Did a r ∷ xs) s w h =
    turned-walked t xs (turned s a) (gone (entry_of t w.next a r) a w) (turned-gone t w.next a r s w h)

-- what a record emits is in turn where its actions are
pub drain-in_turn : (t : ℕ) (items : List Item) → IsInTurn (actions_of items) → IsInTurn (acts (drain t items))
drain-in_turn t items h =
    let s = turned_by (Some false) (actions_of items) in
    (h.0, (turned-emptied s (walked t items) (turned-walked t items (Some false) start (refl, tt))).0 ∙ h.1)

-- ---- the history

count-acts : (p : Action → Bool) (es : List Entry) → count_by (λ e. p e.action) es ≡ count_by p (acts es)
count-acts p [] = refl
count-acts p (e ∷ es) =
    count-cons (λ x. p x.action) e es ∙ ap (λ n. cond (p e.action) 1 0 + n) (count-acts p es) ∙ sym (count-cons p e.action (acts es))

own-count : (t : ℕ) (p : Action → Bool) (es : List Entry) → count_by (λ e. (e.thread == t) && p e.action) es ≡ count_by p (acts (entries_of t es))
own-count t p es = count-filter (λ e. e.thread == t) (λ e. p e.action) es ∙ count-acts p (entries_of t es)

equal-le : (a b c d : ℕ) → a ≡ c → b ≡ d → c ≡ d → a ≤ b
equal-le a b c d p q r = omega arith

-- one more action of a thread is in turn where the thread's entries are
next-in_turn : (t : ℕ) (front : List Entry) (a : Action) (tail : List Action) → IsInTurn (acts (entries_of t front) ++ a ∷ tail)
    → takes_turn front t a ≡ true
next-in_turn t front (Notify m) tail h =
    le-leb (notifies t front) (waits t front)
    (equal-le _ _ _ _ (own-count t is_notify front) (own-count t is_wait front)
    (closed-before (acts (entries_of t front)) (Notify m ∷ tail) (none-turned_by tail) h))
next-in_turn t front a tail h = refl

entry-in_turn : (front rest : List Entry) (e : Entry) → IsInTurn (acts (entries_of e.thread (front ++ e ∷ rest)))
    → takes_turn front e.thread e.action ≡ true
entry-in_turn front rest e h =
    let t = e.thread in
    let own = entries_of t front in
    let is : acts (entries_of t (front ++ e ∷ rest)) ≡ acts own ++ e.action ∷ acts (entries_of t rest) =
    ap acts (entries_of-append t front (e ∷ rest) ∙ ap (λ l. own ++ l) (entries_of-append t (e ∷ []) rest)
    ∙ ap (λ l. own ++ (l ++ entries_of t rest)) (entries-own t e refl))
    ∙ map-append (λ (x : Entry). x.action) own (e ∷ entries_of t rest) in
    next-in_turn t front e.action (acts (entries_of t rest)) (subst IsInTurn is h)

turns-from : (n : ℕ) (before es : List Entry) → Each (λ e. e.thread < n) es
    → ((t : ℕ) → t < n → IsInTurn (acts (entries_of t (before ++ es)))) → AreInTurnFrom before es
turns-from n before [] b h = tt
turns-from n before (e ∷ es) b h = (
  entry-in_turn before es e (h e.thread b.0),
  turns-from n (before ++ e ∷ []) es b.1
      (λ t lt. subst (λ l. IsInTurn (acts (entries_of t l))) (sym (append_assoc before (e ∷ []) es)) (h t lt)),
)

-- a history is in turn where the entries of each thread are
pub turns-all : (n : ℕ) (history : List Entry) → Each (λ e. e.thread < n) history
    → ((t : ℕ) → t < n → IsInTurn (acts (entries_of t history))) → AreInTurn history
turns-all n history b h = turns-from n [] history b h
