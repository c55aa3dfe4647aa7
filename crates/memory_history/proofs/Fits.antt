-- The lawful reply fits its action, whatever the action.
use Rattle.std.proofs.Common.{◌≡◌, ◌==◌, ℕ, ◌+◌, ◌*◌, ◌<◌, ◌≤◌, nat_lt, nat_le, pos, Bool, true, false, not, ◌&&◌, ◌||◌, cond, List, [], ◌∷◌, length, Option, Some, None, is_some, is_none, slice_get, refl, sym, ap, subst, ◌∙◌, inl, inr, arith, eqb-true, lt-ltb, le-leb, ltb-false}
use Rattle.std.specs.List.{list_any}
use Rattle.std.proofs.lemmas.Bool.{and_parts, and_from, cond_both, false_from_ne_true, or_right}
use Rattle.block_layout.specs.declared.place.SharedPtr.{SharedPtr}
use Rattle.block_layout.specs.declared.kind.Shape.{Shape}
use Rattle.block_layout.specs.declared.run_error.TheConstants.{BARRIER_MISMATCH, LOCK_AGAIN, LOCK_NOT_HELD, LOCK_FREED, BAD_FREE, COLLECTIVE_MISMATCH, SHARED_SPACE}
use Rattle.block_layout.specs.Places.{in_range}
use Rattle.block_layout.specs.Pointers.{null, is_null, same_target}
use Rattle.upc_values.specs.declared.scalar.Scalar.{Scalar}
use Rattle.upc_values.specs.declared.scalar.Scalar.TheVariants.{Shared, Lock}
use Rattle.upc_values.specs.declared.scalar.Mark.{Mark}
use Rattle.upc_values.specs.declared.action.Action.{Action}
use Rattle.upc_values.specs.declared.action.Action.TheVariants as act
use Rattle.upc_values.specs.declared.action.Reply.{Reply}
use Rattle.upc_values.specs.declared.action.Reply.TheVariants.{Done, Value, Flag, Refused}
use Rattle.upc_values.specs.declared.journal.Entry.{Entry}
use Rattle.upc_values.specs.Lists.{Has}
use Rattle.upc_values.specs.Calls.{Call, Allocates, Makes_lock, Frees, Frees_lock, call_of}
use Rattle.upc_values.specs.Openings.{Opening, IsOpening, bytes_of}
use Rattle.upc_values.specs.History.{Lead, objects, made, alloc_reply, locks, is_freed, is_given_up, holder, lock_reply, unlock_reply, is_released, allocated, free_reply, each_thread, agrees_with, marks, all_notified, waits, wait_reply, led_reply, same_call, notifies, meets, leader, meet_reply, reply, IsLegal}
use Rattle.upc_values.specs.Formed.{is_home, may_alloc, may_call, is_pointer, is_start, fits_call, fits, fits_after, IsWellFormed, AreWellFormed}
use Rattle.upc_values.proofs.Membership.{has-cases}
use Rattle.memory_history.proofs.Entries.{Keeps, by_entries, has-single, leader-has}
use Rattle.memory_history.proofs.Starts.{same_call-true}
use Rattle.memory_history.proofs.Placed.{new-next}
use Rattle.memory_history.proofs.ReadValues.{read-fits}

-- ---- a new object's pointer

pub start-fits : (o : Opening) (es : List Entry) (n b : ℕ) (h : Option ℕ) (s : ℕ) → 0 < o.threads
    → may_alloc o n b s ≡ true → is_home o.threads h ≡ true
    → bytes_of (objects o es) + n * b ≤ 16777216 → is_start o.threads o.shapes (made o es n b h s) ≡ true
start-fits o es n b h s threads may home room =
    let p = made o es n b h s in
    let d = (new-next o es n b h s threads may home room).placed in
    let x = p.object in
    let numbered : not (x.number == 0) ≡ true =
    ap not
    (false_from_ne_true (x.number == 0)
    (λ e. let z : length (objects o es) + 1 ≡ 0 = eqb-true x.number 0 e in omega arith)) in
    let here : nat_lt p.thread o.threads ≡ true = lt-ltb x.home o.threads d.home in
    let total : nat_le x.total 16777216 ≡ true = le-leb x.total 16777216 (omega arith) in
    and_from (is_pointer o.threads o.shapes p) (p.phase == 0)
    (or_right (is_null p) _
    (and_from _ _ numbered
    (and_from _ _ (ap is_some d.listed)
    (and_from _ _ here
    (and_from _ _ here
    (and_from (in_range (pos 0)) _ refl (and_from _ _ total (le-leb x.block 16777216 d.block))))))))
    refl

-- ---- replies of each kind

module _ (threads : ℕ) (shapes : List Shape) where
  -- a reply, if there is one, fits
  abbrev FitIn : Action → Option Reply → Type 0
  FitIn a (Some r) = fits threads shapes None a r ≡ true
  FitIn a None = Unit {0}

  fit-some : (a : Action) (x : Option Reply) (r : Reply) → FitIn a x → x ≡ Some r → fits threads shapes None a r ≡ true
  fit-some a x r h e = subst (FitIn a) e h

  wait-fit : (m : Mark) (a b : Bool) → FitIn (act.Wait m) (cond a (Some (cond b Done (Refused BARRIER_MISMATCH))) None)
  wait-fit m true true = refl
  wait-fit m true false = refl
  wait-fit m false b = tt

  lock-fit : (l t : ℕ) (freed : Bool) (h : Option ℕ)
      → FitIn (act.Lock l) (cond freed (Some (Refused LOCK_FREED)) (lock_reply t h))
  lock-fit l t true h = refl
  lock-fit l t false None = refl
  lock-fit l t false (Some u) =
      cond_both (t == u) (Some (Refused LOCK_AGAIN)) None (FitIn (act.Lock l)) (λ _. refl) (λ _. tt)

  attempt-fit : (l : ℕ) (freed b : Bool) → FitIn (act.Attempt l) (Some (cond freed (Refused LOCK_FREED) (Flag b)))
  attempt-fit l true b = refl
  attempt-fit l false b = refl

  unlock-fit : (l t : ℕ) (freed : Bool) (h : Option ℕ)
      → FitIn (act.Unlock l) (Some (cond freed (Refused LOCK_FREED) (unlock_reply t h)))
  unlock-fit l t true h = refl
  unlock-fit l t false None = refl
  unlock-fit l t false (Some u) =
      cond_both (t == u) Done (Refused LOCK_NOT_HELD) (λ r. FitIn (act.Unlock l) (Some r)) (λ _. refl) (λ _. refl)

  lock_free-fit : (l : ℕ) (given : Bool) → FitIn (act.LockFree l) (Some (cond given (Refused LOCK_FREED) Done))
  lock_free-fit l true = refl
  lock_free-fit l false = refl

  free-fit : (p : SharedPtr) (live : Bool) → FitIn (act.Free p) (Some (cond live Done (Refused BAD_FREE)))
  free-fit p true = refl
  free-fit p false = refl

  refused-call : (c : Call) (b : Bool) (code : ℕ) → fits_call threads shapes c (Refused code) ≡ true
      → fits_call threads shapes c Done ≡ true
      → fits_call threads shapes c (cond b Done (Refused code)) ≡ true
  refused-call c true code h g = g
  refused-call c false code h g = h

alloc-fit : (o : Opening) (es : List Entry) (n b : ℕ) (h : Option ℕ) (s : ℕ) (P : Reply → Type 0) → 0 < o.threads
    → may_alloc o n b s ≡ true
    → is_home o.threads h ≡ true → P (Refused SHARED_SPACE)
    → ((p : SharedPtr) → is_start o.threads o.shapes p ≡ true → P (Value (Shared p))) → P (alloc_reply o es n b h s)
alloc-fit o es n b h s P threads may home no_room new =
    cond_both (nat_lt 16777216 (bytes_of (objects o es) + n * b)) (Refused SHARED_SPACE)
    (Value (Shared (made o es n b h s))) P (λ _. no_room)
    (λ t. new (made o es n b h s)
    (start-fits o es n b h s threads may home (ltb-false 16777216 (bytes_of (objects o es) + n * b) t)))

-- ---- collective calls

-- the reply to the first of a collective call fits it
pub led-fits : (o : Opening) (es : List Entry) (c : Call) → 0 < o.threads → may_call o es c ≡ true
    → fits_call o.threads o.shapes c (led_reply o es c) ≡ true
led-fits o es (Allocates n b s) threads may =
    let p = and_parts (is_some (slice_get o.shapes s)) ((n * b == 0) || may_alloc o n b s) may in
    let P : Reply → Type 0 = λ r. fits_call o.threads o.shapes (Allocates n b s) r ≡ true in
    cond_both (n * b == 0) (Value (Shared null)) (alloc_reply o es n b None s) P (λ _. refl)
    (λ y. alloc-fit o es n b None s P threads (sym (ap (λ z. z || may_alloc o n b s) y) ∙ p.1) refl refl (λ q h. h))
led-fits o es Makes_lock threads may = lt-ltb 0 (locks es + 1) (omega arith)
led-fits o es (Frees p) threads may =
    cond_both (is_null p) Done (free_reply es p) (λ r. fits_call o.threads o.shapes (Frees p) r ≡ true) (λ _. refl)
    (λ _. refused-call o.threads o.shapes (Frees p)
    (list_any (λ q. same_target p q && not (is_released q.object.number es)) (allocated es)) BAD_FREE refl refl)
led-fits o es (Frees_lock l) threads may =
    refused-call o.threads o.shapes (Frees_lock l) ((l == 0) || not (is_given_up l es)) LOCK_FREED refl refl
led-fits o es c threads may = refl

mismatch-fits : (threads : ℕ) (shapes : List Shape) (c : Call)
    → fits_call threads shapes c (Refused COLLECTIVE_MISMATCH) ≡ true
mismatch-fits threads shapes (Allocates n b s) = refl
mismatch-fits threads shapes Makes_lock = refl
mismatch-fits threads shapes c = refl

-- each collective call of the entries has a reply that fits it
abbrev CallsFit : Opening → List Entry → Type 0
CallsFit o es =
    (e : Entry) → Has es e → (c : ℕ) (args : List Scalar) → e.action ≡ act.Meet c args
    → fits_call o.threads o.shapes (call_of c args) e.reply ≡ true

meet-fits : (o : Opening) (es : List Entry) (t c : ℕ) (args : List Scalar) → 0 < o.threads
    → may_call o es (call_of c args) ≡ true → CallsFit o es
    → (w : Option Lead) → leader (length (meets t es)) es ≡ w
    → fits_call o.threads o.shapes (call_of c args) (meet_reply o es t c args w) ≡ true
meet-fits o es t c args threads may all None q = led-fits o es (call_of c args) threads may
meet-fits o es t c args threads may all (Some w) q =
    cond_both (same_call c args w.entry.action && (notifies t es == notifies w.entry.thread w.before)) w.entry.reply
    (Refused COLLECTIVE_MISMATCH)
    (λ r. fits_call o.threads o.shapes (call_of c args) r ≡ true)
    (λ s. all w.entry (leader-has (length (meets t es)) es w q) c args
    (same_call-true c args w.entry.action
    (and_parts (same_call c args w.entry.action) (notifies t es == notifies w.entry.thread w.before) s).0))
    (λ _. mismatch-fits o.threads o.shapes (call_of c args))

meet-action : (o : Opening) (es : List Entry) (t c : ℕ) (args : List Scalar) (a : Action) (r : Reply) → 0 < o.threads
    → CallsFit o es → a ≡ act.Meet c args
    → IsWellFormed o es a → reply o es t a ≡ Some r → fits_call o.threads o.shapes (call_of c args) r ≡ true
meet-action o es t c args a r threads all q w e =
    let may : may_call o es (call_of c args) ≡ true = subst (IsWellFormed o es) q w in
    let given : reply o es t (act.Meet c args) ≡ Some r = subst (λ z. reply o es t z ≡ Some r) q e in
    let same : meet_reply o es t c args (leader (length (meets t es)) es) ≡ r = cc in
    subst (λ z. fits_call o.threads o.shapes (call_of c args) z ≡ true) same
    (meet-fits o es t c args threads may all (leader (length (meets t es)) es) refl)

calls-fit : (o : Opening) (es : List Entry) → 0 < o.threads → IsLegal o es → AreWellFormed o es → CallsFit o es
calls-fit o es threads l f = by_entries o (CallsFit o) (λ e h. absurd h) keep es l f
  where
    keep : Keeps o (CallsFit o)
    keep before e g k w r all x h c args q =
        elim (has-cases before (e ∷ []) x h) [
          | inl old ↦ all x old c args q
          | inr new ↦
              let same = has-single e x new in
              subst (λ (z : Entry). fits_call o.threads o.shapes (call_of c args) z.reply ≡ true) same
              (meet-action o before e.thread c args e.action e.reply threads all
              (ap (λ (z : Entry). z.action) same ∙ q) w r)
        ]

-- ---- any action

-- the lawful reply fits the action
pub reply-fits : (o : Opening) (es : List Entry) (t : ℕ) (a : Action) (r : Reply) → IsOpening o → IsLegal o es
    → AreWellFormed o es
    → IsWellFormed o es a → reply o es t a ≡ Some r → fits_after o es a r ≡ true
reply-fits o es t (act.Read l s) r i g f w e = read-fits o es t l s r i g f w e
reply-fits o es t (act.Wait m) r i g f w e =
    fit-some o.threads o.shapes (act.Wait m) (wait_reply o es (waits t es) m) r
    (wait-fit o.threads o.shapes m (all_notified o.threads (waits t es) es)
    (each_thread o.threads (λ u. agrees_with m (slice_get (marks u es) (waits t es))))) e
reply-fits o es t (act.Lock l) r i g f w e =
    fit-some o.threads o.shapes (act.Lock l) (reply o es t (act.Lock l)) r
    (lock-fit o.threads o.shapes l t (is_freed o l es) (holder l es)) e
reply-fits o es t (act.Attempt l) r i g f w e =
    fit-some o.threads o.shapes (act.Attempt l) (reply o es t (act.Attempt l)) r
    (attempt-fit o.threads o.shapes l (is_freed o l es) (is_none (holder l es))) e
reply-fits o es t (act.Unlock l) r i g f w e =
    fit-some o.threads o.shapes (act.Unlock l) (reply o es t (act.Unlock l)) r
    (unlock-fit o.threads o.shapes l t (is_freed o l es) (holder l es)) e
reply-fits o es t (act.LockFree l) r i g f w e =
    fit-some o.threads o.shapes (act.LockFree l) (reply o es t (act.LockFree l)) r
    (lock_free-fit o.threads o.shapes l (is_given_up l es)) e
reply-fits o es t (act.Free p) r i g f w e =
    fit-some o.threads o.shapes (act.Free p) (Some (free_reply es p)) r
    (free-fit o.threads o.shapes p
    (list_any (λ q. same_target p q && not (is_released q.object.number es)) (allocated es))) e
reply-fits o es t (act.Alloc n b h s) r i g f w e =
    let p = and_parts (may_alloc o n b s) (is_home o.threads h) w in
    fit-some o.threads o.shapes (act.Alloc n b h s) (Some (alloc_reply o es n b h s)) r
    (alloc-fit o es n b h s (λ z. fits o.threads o.shapes None (act.Alloc n b h s) z ≡ true) i.least p.0 p.1
    refl (λ q y. y)) e
reply-fits o es t (act.Meet c args) r i g f w e =
    meet-action o es t c args (act.Meet c args) r i.least (calls-fit o es i.least g f) refl w e
reply-fits o es t act.LockMake r i g f w e =
    fit-some o.threads o.shapes act.LockMake (Some (Value (Lock (locks es + 1)))) r
    (lt-ltb 0 (locks es + 1) (omega arith)) e
reply-fits o es t (act.Write s l v) r i g f w e = fit-some o.threads o.shapes (act.Write s l v) (Some Done) r refl e
reply-fits o es t act.Fence r i g f w e = fit-some o.threads o.shapes act.Fence (Some Done) r refl e
reply-fits o es t act.Beat r i g f w e = fit-some o.threads o.shapes act.Beat (Some Done) r refl e
reply-fits o es t (act.Notify m) r i g f w e = fit-some o.threads o.shapes (act.Notify m) (Some Done) r refl e
reply-fits o es t (act.Print x) r i g f w e = fit-some o.threads o.shapes (act.Print x) (Some Done) r refl e
reply-fits o es t (act.Exit v) r i g f w e = fit-some o.threads o.shapes (act.Exit v) (Some Done) r refl e
