-- A thread that wants to notify has waited as often as it has notified in the history.
use Rattle.std.proofs.Common.{◌≡◌, ℕ, ◌+◌, ◌≤◌, ◌==◌, nat_lt, nat_le, Bool, true, false, ◌&&◌, cond, List, [], ◌∷◌, ◌++◌, length, map, filter, Option, Some, None, is_some, refl, sym, ap, subst, ◌∙◌, add-zero, zero-add, arith}
use Rattle.std.proofs.lemmas.Bool.{cond_both, le-leb}
use Rattle.std.proofs.lemmas.List.{length-append, map-append}
use Rattle.std.proofs.lemmas.List.Elements.{filter-append}
use Rattle.std.proofs.lemmas.List.Sums.{length-filter}
use Rattle.block_layout.specs.declared.place.Loc.{Loc}
use Rattle.upc_values.specs.declared.scalar.Scalar.{Scalar}
use Rattle.upc_values.specs.declared.scalar.Mark.{Mark}
use Rattle.upc_values.specs.declared.action.Action.{Action}
use Rattle.upc_values.specs.declared.action.Action.TheVariants.{Read, Write, Notify, Wait, Print}
use Rattle.upc_values.specs.declared.action.Reply.{Reply}
use Rattle.upc_values.specs.declared.record.Item.{Item}
use Rattle.upc_values.specs.declared.record.Item.TheVariants.{Did, Stall}
use Rattle.upc_values.specs.declared.journal.Entry.{Entry}
use Rattle.upc_values.specs.Lists.{Each}
use Rattle.upc_values.specs.Drain.{Commit, commit_of, entries_in, Walk, start, emptied, oldest_out, with_room, passed, stored, pending_value, changed, combined, put_pending, looked_up, gone, walked_from, walked, entry_of, entries_of}
use Rattle.upc_values.specs.Openings.{Opening}
use Rattle.upc_values.specs.History.{is_notify, is_wait, notifies, waits}
use Rattle.upc_values.specs.Records.{actions_of}
use Rattle.upc_values.proofs.Drained.{read-entries}
use Rattle.upc_values.proofs.Membership.{each-append}
use Rattle.upc_values.proofs.Walks.{entries-all}
use Rattle.thread_steps.specs.layer.Fronts.{turned, IsInTurn}
use Rattle.thread_steps.specs.layer.Parts.{turned_by}
use Rattle.stack_code.specs.layer.Codes.{Codes}
use Rattle.stack_machine.specs.declared.wish.Wish.TheVariants.{Act}
use Rattle.memory_history.specs.layer.Turns.{takes_turn}
use Rattle.write_buffer.specs.declared.pending.Pending.{Pending}
use Rattle.write_buffer.specs.layer.Buffer.{committed}
use Rattle.upc_task.specs.layer.Sources.{Outcomes}
use Rattle.upc_task.specs.layer.Kept.{Worker, IsKept}
use Rattle.upc_task.proofs.Buffers.{committed-own}
use Rattle.upc_task.proofs.Recorders.{recorded-turns}
use Rattle.upc_task.proofs.Workers.{kept-holds}

-- ---- how many entries have an action that passes a test

abbrev pub many : (Action → Bool) → List Entry → ℕ
many test es = length (filter (λ e. test e.action) es)

many-append : (test : Action → Bool) (xs ys : List Entry) → many test (xs ++ ys) ≡ many test xs + many test ys
many-append test xs ys =
    ap length (filter-append (λ e. test e.action) xs ys)
    ∙ length-append (filter (λ e. test e.action) xs) (filter (λ e. test e.action) ys)

many-one : (test : Action → Bool) (e : Entry) → many test (e ∷ []) ≡ cond (test e.action) 1 0
many-one test e = elim (test e.action) as (λ b. length (cond b (e ∷ []) []) ≡ cond b 1 0) [ true ↦ refl | false ↦ refl ]

many-none : (test : Action → Bool) (es : List Entry) → Each (λ e. test e.action ≡ false) es → many test es ≡ 0
many-none test [] h = refl
many-none test (e ∷ es) h =
    let rest = filter (λ x. test x.action) es in
    ap (λ b. length (cond b (e ∷ rest) rest)) h.0 ∙ many-none test es h.1

filter-both : (own test : Entry → Bool) (es : List Entry) → filter (λ e. own e && test e) es ≡ filter test (filter own es)
filter-both own test [] = refl
filter-both own test (e ∷ es) =
    let rest = filter (λ x. own x && test x) es in
    elim (own e) as (λ b. cond (b && test e) (e ∷ rest) rest ≡ filter test (cond b (e ∷ filter own es) (filter own es))) [
      | true ↦ ap (λ l. cond (test e) (e ∷ l) l) (filter-both own test es)
      | false ↦ filter-both own test es
    ]

pub notifies-many : (t : ℕ) (es : List Entry) → notifies t es ≡ many is_notify (entries_of t es)
notifies-many t es =
    sym (length-filter (λ e. (e.thread == t) && is_notify e.action) es)
    ∙ ap length (filter-both (λ e. e.thread == t) (λ e. is_notify e.action) es)

pub waits-many : (t : ℕ) (es : List Entry) → waits t es ≡ many is_wait (entries_of t es)
waits-many t es =
    sym (length-filter (λ e. (e.thread == t) && is_wait e.action) es)
    ∙ ap length (filter-both (λ e. e.thread == t) (λ e. is_wait e.action) es)

-- ---- how many of some actions pass it

abbrev pub tally : (Action → Bool) → List Action → ℕ
tally test [] = 0
tally test (a ∷ acts) = cond (test a) 1 0 + tally test acts

nothing-adds : (n : ℕ) (b : Bool) → b ≡ false → n ≡ n + cond b 1 0
nothing-adds n b h = sym (ap (λ c. n + cond c 1 0) h ∙ add-zero n)

add-three : (n c m : ℕ) → (n + c) + m ≡ n + (c + m)
add-three n c m = omega arith

-- ---- a walk emits whatever passes a test that no read and no write passes

module _ (test : Action → Bool) (no_write : (s : Bool) (l : Loc) (v : Scalar) → test (Write s l v) ≡ false)
    (no_read : (l : Loc) (s : Bool) → test (Read l s) ≡ false) where
  abbrev IsPlain : Entry → Type 0
  IsPlain e = test e.action ≡ false

  -- so many were emitted, and none is pending
  abbrev Emits : ℕ → Walk → Type 0
  Emits n w = (many test (entries_in w.emitted) ≡ n) × Each IsPlain (entries_in w.pending)

  committed-plain : (t : ℕ) (ps : List Pending) → Each IsPlain (map (committed t) ps)
  committed-plain t [] = tt
  committed-plain t (p ∷ ps) = (no_write false p.loc p.value, committed-plain t ps)

  emits-more : (n : ℕ) (cs ds : List Commit) → many test (entries_in cs) ≡ n → Each IsPlain (entries_in ds)
      → many test (entries_in (cs ++ ds)) ≡ n
  emits-more n cs ds h p =
      ap (many test) (map-append (λ c. c.entry) cs ds) ∙ many-append test (entries_in cs) (entries_in ds)
      ∙ ap (λ k. many test (entries_in cs) + k) (many-none test (entries_in ds) p)
      ∙ add-zero (many test (entries_in cs)) ∙ h

  emits-emptied : (n : ℕ) (w : Walk) → Emits n w → Emits n (emptied w)
  emits-emptied n w h = (emits-more n w.emitted w.pending h.0 h.1, tt)

  emits-oldest : (n : ℕ) (w : Walk) (cs : List Commit) → w.pending ≡ cs → Emits n w → Emits n (oldest_out cs w)
  emits-oldest n w [] q h = h
  emits-oldest n w (c ∷ cs) q h =
      let p : Each IsPlain (entries_in (c ∷ cs)) = subst (λ z. Each IsPlain (entries_in z)) q h.1 in
      (emits-more n w.emitted (c ∷ []) h.0 (p.0, tt), p.1)

  emits-room : (n : ℕ) (w : Walk) → Emits n w → Emits n (with_room w)
  emits-room n w h =
      cond_both (nat_lt (length w.pending) 64) w (oldest_out w.pending w) (Emits n) (λ _. h) (λ _. emits-oldest n w w.pending refl h)

  emits-stored : (n : ℕ) (e : Entry) (w : Walk) → IsPlain e → Emits n w → Emits n (stored e w)
  emits-stored n e w p h = (
    h.0,
    subst (Each IsPlain) (sym (map-append (λ c. c.entry) w.pending (commit_of e ∷ [])))
        (each-append IsPlain (entries_in w.pending) (e ∷ []) h.1 (p, tt)),
  )

  plain-changed : (l : Loc) (e : Entry) (cs : List Commit) → IsPlain e → Each IsPlain (entries_in cs)
      → Each IsPlain (entries_in (changed l (combined e) cs))
  plain-changed l e [] p h = tt
  plain-changed l e (c ∷ cs) p h =
      cond_both (is_some (pending_value l cs)) (c ∷ changed l (combined e) cs) (combined e c ∷ cs)
      (λ z. Each IsPlain (entries_in z)) (λ _. (h.0, plain-changed l e cs p h.1)) (λ _. (p, h.1))

  emits-put : (n : ℕ) (l : Loc) (e : Entry) (f : Option Scalar) (w : Walk) → IsPlain e → Emits n w → Emits n (put_pending l e f w)
  emits-put n l e None w p h = emits-stored n e (with_room w) p (emits-room n w h)
  emits-put n l e (Some v) w p h = (h.0, plain-changed l e w.pending p h.1)

  emits-passed : (n : ℕ) (e : Entry) (w : Walk) → Emits n w → Emits (n + cond (test e.action) 1 0) (passed e w)
  emits-passed n e w h = (
    ap (many test) (map-append (λ c. c.entry) w.emitted (commit_of e ∷ [])) ∙ many-append test (entries_in w.emitted) (e ∷ [])
        ∙ ap (λ k. k + many test (e ∷ [])) h.0 ∙ ap (λ k. n + k) (many-one test e),
    h.1,
  )

  emits-looked : (n : ℕ) (l : Loc) (e : Entry) (f : Option Scalar) (w : Walk) → Emits n w
      → Emits (n + cond (test e.action) 1 0) (passed e w) → IsPlain e → Emits (n + cond (test e.action) 1 0) (looked_up l e f w)
  emits-looked n l e None w h k p = k
  emits-looked n l e (Some v) w h k p =
      subst (λ m. Emits m (looked_up l e (Some v) w)) (nothing-adds n (test e.action) p)
      (h.0, subst (Each IsPlain) (sym (read-entries l e w.pending)) h.1)

  emits-gone : (n t i : ℕ) (a : Action) (r : Reply) (w : Walk) → Emits n w → Emits (n + cond (test a) 1 0) (gone (entry_of t i a r) a w)
  emits-gone n t i (Read l false) r w h =
      let e : Entry = entry_of t i (Read l false) r in
      emits-looked n l e (pending_value l w.pending) w h (emits-passed n e w h) (no_read l false)
  emits-gone n t i (Read l true) r w h = emits-passed n (entry_of t i (Read l true) r) (emptied w) (emits-emptied n w h)
  emits-gone n t i (Write false l v) r w h =
      let e : Entry = entry_of t i (Write false l v) r in
      subst (λ m. Emits m (put_pending l e (pending_value l w.pending) w)) (nothing-adds n (test (Write false l v)) (no_write false l v))
      (emits-put n l e (pending_value l w.pending) w (no_write false l v) h)
  emits-gone n t i (Write true l v) r w h =
      emits-passed n (entry_of t i (Write true l v) r) (emptied w) (emits-emptied n w h)
  emits-gone n t i (Print x) r w h = emits-passed n (entry_of t i (Print x) r) w h
  emits-gone n t i a r w h = emits-passed n (entry_of t i a r) (emptied w) (emits-emptied n w h)

  emits-walked : (t : ℕ) (xs : List Item) (n : ℕ) (w : Walk) → Emits n w → Emits (n + tally test (actions_of xs)) (walked_from t w xs)
  emits-walked t [] n w h = subst (λ m. Emits m w) (sym (add-zero n)) h
  emits-walked t (Stall ∷ xs) n w h = emits-walked t xs n (emptied w) (emits-emptied n w h)
  emits-walked t (Did a r ∷ xs) n w h =
      let next : Walk = gone (entry_of t w.next a r) a w in
      subst (λ m. Emits m (walked_from t next xs)) (add-three n (cond (test a) 1 0) (tally test (actions_of xs)))
      (emits-walked t xs (n + cond (test a) 1 0) next (emits-gone n t w.next a r w h))

  -- what a walk has emitted
  walked-many : (t : ℕ) (xs : List Item) → many test (entries_in (walked t xs).emitted) ≡ tally test (actions_of xs)
  walked-many t xs = (emits-walked t xs 0 start (refl, tt)).0 ∙ zero-add (tally test (actions_of xs))

  -- what commits of writes add to what a thread has done
  many-committed : (t : ℕ) (seen : List Entry) (ps : List Pending)
      → many test (entries_of t (seen ++ map (committed t) ps)) ≡ many test (entries_of t seen)
  many-committed t seen ps =
      let own = map (committed t) ps in
      ap (many test) (filter-append (λ e. e.thread == t) seen own) ∙ many-append test (entries_of t seen) (entries_of t own)
      ∙ ap (λ l. many test (entries_of t seen) + many test l) (entries-all t own (committed-own t ps))
      ∙ ap (λ k. many test (entries_of t seen) + k) (many-none test own (committed-plain t ps))
      ∙ add-zero (many test (entries_of t seen))

-- ---- notifies and waits

-- a notify is in turn after the commits of a buffer where it is before them
pub turn-committed : (t : ℕ) (a : Action) (seen : List Entry) (ps : List Pending)
    → takes_turn (seen ++ map (committed t) ps) t a ≡ takes_turn seen t a
turn-committed t (Notify m) seen ps =
    let all = seen ++ map (committed t) ps in
    let n : notifies t all ≡ notifies t seen =
    notifies-many t all ∙ many-committed is_notify (λ s l v. refl) (λ l s. refl) t seen ps ∙ sym (notifies-many t seen) in
    let w : waits t all ≡ waits t seen =
    waits-many t all ∙ many-committed is_wait (λ s l v. refl) (λ l s. refl) t seen ps ∙ sym (waits-many t seen) in
    ap (λ k. nat_le k (waits t all)) n ∙ ap (nat_le (notifies t seen)) w
turn-committed t a seen ps = refl

no-turn : (a : Action) → turned None a ≡ None
no-turn (Notify m) = refl
no-turn (Wait m) = refl
no-turn a = refl

no-turns : (acts : List Action) (c : Bool) → turned_by None acts ≡ Some c → ⊥
no-turns [] c h = absurd cc
no-turns (a ∷ acts) c h = no-turns acts c (sym (ap (λ s. turned_by s acts) (no-turn a)) ∙ h)

after-notify : (x y z : ℕ) → x + 1 ≡ y + z → (1 + x) + 0 ≡ (0 + y) + z
after-notify x y z h = omega arith

after-wait : (x y z : ℕ) → x + 0 ≡ y + z → (0 + x) + 1 ≡ (1 + y) + z
after-wait x y z h = omega arith

after-other : (x y z u : ℕ) → x + u ≡ y + z → (0 + x) + u ≡ (0 + y) + z
after-other x y z u h = omega arith

-- with one more for a notify that is open
turns-tally : (acts : List Action) (b c : Bool) → turned_by (Some b) acts ≡ Some c
    → tally is_notify acts + cond b 1 0 ≡ tally is_wait acts + cond c 1 0
turns-tally [] b c h = let same : b ≡ c = cc in ap (λ z. 0 + cond z 1 0) same
turns-tally (Notify m ∷ acts) false c h =
    after-notify (tally is_notify acts) (tally is_wait acts) (cond c 1 0) (turns-tally acts true c h)
turns-tally (Notify m ∷ acts) true c h = absurd (no-turns acts c h)
turns-tally (Wait m ∷ acts) false c h = absurd (no-turns acts c h)
turns-tally (Wait m ∷ acts) true c h =
    after-wait (tally is_notify acts) (tally is_wait acts) (cond c 1 0) (turns-tally acts false c h)
turns-tally (a ∷ acts) false c h =
    after-other (tally is_notify acts) (tally is_wait acts) (cond c 1 0) 0 (turns-tally acts false c h)
turns-tally (a ∷ acts) true c h =
    after-other (tally is_notify acts) (tally is_wait acts) (cond c 1 0) 1 (turns-tally acts true c h)

turns-push : (s : Option Bool) (acts : List Action) (a : Action) → turned_by s (acts ++ a ∷ []) ≡ turned (turned_by s acts) a
turns-push s [] a = refl
turns-push s (x ∷ acts) a = turns-push (turned s x) acts a

-- before a notify in turn no notify is open
before-notify : (s : Option Bool) (m : Mark) (c : Bool) → turned s (Notify m) ≡ Some c → s ≡ Some false
before-notify None m c h = absurd cc
before-notify (Some true) m c h = absurd cc
before-notify (Some false) m c h = refl

enough : (x y n w : ℕ) → n ≡ x → w ≡ y → x + 0 ≡ y + 0 → n ≤ w
enough x y n w p q h = omega arith

-- a thread of which the history has as many notifies and waits as it did may do what keeps them in turn
pub in-turn : (t : ℕ) (seen : List Entry) (acts : List Action) (a : Action) → notifies t seen ≡ tally is_notify acts
    → waits t seen ≡ tally is_wait acts → IsInTurn (acts ++ a ∷ []) → takes_turn seen t a ≡ true
in-turn t seen acts (Notify m) n w h =
    let now : turned_by (Some false) acts ≡ Some false =
    before-notify (turned_by (Some false) acts) m h.0 (sym (turns-push (Some false) acts (Notify m)) ∙ h.1) in
    le-leb (notifies t seen) (waits t seen)
    (enough (tally is_notify acts) (tally is_wait acts) (notifies t seen) (waits t seen) n w (turns-tally acts false false now))
in-turn t seen acts a n w h = refl

-- what a task wishes to do keeps its notifies and waits in turn
pub kept-turns : (o : Opening) (p : Codes) (f : Outcomes) (seen : List Entry) (k : Worker) (a : Action)
    → IsKept o p f seen k → k.«end» ≡ None → k.wish ≡ Some (Act a) → takes_turn seen k.thread a ≡ true
kept-turns o p f seen k a h opened wants =
    let t = k.thread in let items = k.items.items in let out = (kept-holds o p f seen k h opened).out in
    in-turn t seen (actions_of items) a
    (notifies-many t seen ∙ ap (many is_notify) out ∙ walked-many is_notify (λ s l v. refl) (λ l s. refl) t items)
    (waits-many t seen ∙ ap (many is_wait) out ∙ walked-many is_wait (λ s l v. refl) (λ l s. refl) t items)
    (recorded-turns o p f k a h.recorded wants)
