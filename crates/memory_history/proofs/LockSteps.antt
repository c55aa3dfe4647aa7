-- The locks after one more entry that is no collective call, and their answers.
use Rattle.std.proofs.Common.{◌≡◌, ℕ, ◌+◌, ◌-◌, ◌<◌, ◌≤◌, ◌==◌, nat_lt, nat_le, Bool, true, false, cond, ◌||◌, inl, inr, List, [], ◌∷◌, ◌++◌, length, Option, Some, None, refl, sym, ap, ◌∙◌, arith, add-zero, eq-eqb, ne_eqb, ltb-true, leb-true, length-set, length-append}
use Rattle.std.proofs.lemmas.Bool.{cases_eq, cases_lt, and_parts, true≢false}
use Rattle.std.proofs.lemmas.List.{get_or-set_same, get_or-set_other, get_or_append_left, get_or_push}
use Rattle.upc_values.specs.declared.scalar.Scalar.TheVariants.{Lock}
use Rattle.upc_values.specs.declared.action.Action.{Action}
use Rattle.upc_values.specs.declared.action.Action.TheVariants as act
use Rattle.upc_values.specs.declared.action.Reply.{Reply}
use Rattle.upc_values.specs.declared.action.Reply.TheVariants.{Done, Value, Flag}
use Rattle.upc_values.specs.declared.journal.Entry.{Entry}
use Rattle.upc_values.specs.Drain.{entry_of}
use Rattle.upc_values.specs.Calls.{Other}
use Rattle.upc_values.specs.Openings.{Opening}
use Rattle.upc_values.specs.History.{is_meet, makes_lock, locks, gives_up, is_given_up, is_freed, turns, left_with, holder, reply}
use Rattle.upc_values.specs.Formed.{is_lock, AreWellFormed}
use Rattle.sync_objects.specs.declared.locks.LockState.{LockState}
use Rattle.sync_objects.specs.layer.Locks.{fresh, IsMade, lock_of, with_lock, held_by, let_go, as_given_up, as_freed, lock_answer, attempt_answer, unlock_answer, give_up_answer, lock_after}
use Rattle.memory_history.specs.code.LocksAfter.{LocksAfter, concerns_locks}
use Rattle.memory_history.proofs.Growing.{locks-push, given_up-push, holder-push}
use Rattle.memory_history.proofs.Leaders.{led-other}
use Rattle.memory_history.proofs.Freeing.{freed-other}
use Rattle.memory_history.proofs.Unmade.{unmade-fresh}

-- ---- locks that change, each in its way

-- the l-th of these is what becomes of the l-th of those
pub record Changed (become : ℕ → LockState → LockState) (ls new : List LockState) : Type 0 where
  pub count : length new ≡ length ls
  pub each : (l : ℕ) → IsMade l ls → lock_of l new ≡ become l (lock_of l ls)

-- one of them alone
abbrev pub only : ℕ → (LockState → LockState) → ℕ → LockState → LockState
only k become l s = cond (k == l) (become s) s

pub changed-none : (ls : List LockState) → Changed (λ l s. s) ls ls
changed-none ls = record { count = refl; each = λ l made. refl }

pub changed-one : (k : ℕ) (become : LockState → LockState) (ls : List LockState) → 0 < k → Changed (only k become) ls (with_lock k become ls)
changed-one k become ls some = record {
  count = length-set ls (k - 1) (become (lock_of k ls));
  each = λ l made.
      let s : LockState = lock_of l ls in
      elim (cases_eq k l) [
        | inl q ↦
            ap (λ v. lock_of l (with_lock v become ls)) q
            ∙ get_or-set_same ls (l - 1) (become s) fresh (omega arith)
            ∙ sym (ap (λ b. cond b (become s) s) (eq-eqb k l q))
        | inr ne ↦
            get_or-set_other ls (k - 1) (l - 1) (become (lock_of k ls)) fresh (λ q. ne (omega arith))
            ∙ sym (ap (λ b. cond b (become s) s) (ne_eqb k l ne))
      ];
}

pub changed-then : (f g : ℕ → LockState → LockState) (first second third : List LockState) → Changed f first second → Changed g second third → Changed (λ l s. g l (f l s)) first third
changed-then f g first second third h k = record {
  count = k.count ∙ h.count;
  each = λ l made.
      let same = h.count in
      k.each l (made.0, omega arith) ∙ ap (g l) (h.each l made);
}

-- what becomes of each lock in the history becomes of it in the list
pub after-changed : (o : Opening) (es now : List Entry) (become : ℕ → LockState → LockState) (ls new : List LockState) → Changed become ls new
    → locks now ≡ locks es → ((l : ℕ) → 0 < l → lock_after o now l ≡ become l (lock_after o es l)) → LocksAfter o es ls → LocksAfter o now new
after-changed o es now become ls new c same step h = record {
  count = c.count ∙ h.count ∙ sym same;
  each = λ l made.
      let many = c.count in
      let was : IsMade l ls = (made.0, omega arith) in
      c.each l was ∙ ap (become l) (h.each l was) ∙ sym (step l made.0);
}

-- one more is made
pub after-made : (o : Opening) (es now : List Entry) (ls : List LockState) → locks now ≡ locks es + 1
    → ((l : ℕ) → 0 < l → lock_after o now l ≡ lock_after o es l) → AreWellFormed o es → LocksAfter o es ls → LocksAfter o now (ls ++ fresh ∷ [])
after-made o es now ls more same formed h = record {
  count = let many = h.count in omega (arith, length-append ls (fresh ∷ []));
  each = λ l made.
      let many = h.count in
      let some : 0 < l = made.0 in
      elim (cases_lt (length ls) l) [
        | inl lt ↦
            let last : length ls ≡ l - 1 = omega (arith, made.1, length-append ls (fresh ∷ [])) in
            get_or_push ls fresh fresh (l - 1) last ∙ sym (same l some ∙ unmade-fresh o l es formed (omega arith))
        | inr le ↦
            get_or_append_left ls (fresh ∷ []) fresh (l - 1) (omega arith)
            ∙ h.each l (some, le) ∙ sym (same l some)
      ];
}

-- ---- an entry that is no Meet

-- what becomes of a lock
abbrev turned : Entry → ℕ → LockState → LockState
turned e l s =
    record {
      holder = cond (turns l e.action e.reply) (left_with (Some e)) s.holder;
      given_up = s.given_up || gives_up l e.action Other e.reply;
      freed = s.freed || gives_up l e.action Other e.reply;
    }

after-turned : (o : Opening) (es : List Entry) (e : Entry) (l : ℕ) → is_meet e.action ≡ false
    → lock_after o (es ++ e ∷ []) l ≡ turned e l (lock_after o es l)
after-turned o es e l none =
    let now : List Entry = es ++ e ∷ [] in
    let h : Option ℕ = cond (turns l e.action e.reply) (left_with (Some e)) (holder l es) in
    let g : Bool = is_given_up l es || gives_up l e.action Other e.reply in
    ap (λ x. record { holder = x; given_up = is_given_up l now; freed = is_freed o l now }) (holder-push l es e)
    ∙ ap (λ x. record { holder = h; given_up = x; freed = is_freed o l now })
    (given_up-push l es e ∙ ap (λ c. is_given_up l es || gives_up l e.action c e.reply) (led-other es e none))
    ∙ ap (λ x. record { holder = h; given_up = g; freed = x }) (freed-other o l es e none)

-- a lock that stands so
abbrev pub state : Option ℕ → Bool → Bool → LockState
state holder given freed = record { holder = holder; given_up = given; freed = freed }

-- as many locks are made
locks-kept : (es : List Entry) (e : Entry) → is_meet e.action ≡ false → makes_lock e.action Other ≡ false → locks (es ++ e ∷ []) ≡ locks es
locks-kept es e none no_lock =
    locks-push es e
    ∙ ap (λ c. locks es + cond (makes_lock e.action c) 1 0) (led-other es e none)
    ∙ ap (λ b. locks es + cond b 1 0) no_lock ∙ add-zero (locks es)

after-step : (o : Opening) (es : List Entry) (e : Entry) (become : ℕ → LockState → LockState) (ls new : List LockState) → is_meet e.action ≡ false
    → makes_lock e.action Other ≡ false → ((l : ℕ) (s : LockState) → turned e l s ≡ become l s) → Changed become ls new → LocksAfter o es ls
    → LocksAfter o (es ++ e ∷ []) new
after-step o es e become ls new none no_lock step c h =
    after-changed o es (es ++ e ∷ []) become ls new c (locks-kept es e none no_lock)
    (λ l some. after-turned o es e l none ∙ step l (lock_after o es l)) h

same-flags : (h : Option ℕ) (g d : Bool) → state h (g || false) (d || false) ≡ state h g d
same-flags h true true = refl
same-flags h true false = refl
same-flags h false true = refl
same-flags h false false = refl

all-flags : (h : Option ℕ) (g d : Bool) → state h (g || true) (d || true) ≡ state h true true
all-flags h true true = refl
all-flags h true false = refl
all-flags h false true = refl
all-flags h false false = refl

not-meet : (a : Action) (r : Reply) → concerns_locks a r ≡ false → (is_meet a ≡ false) × (makes_lock a Other ≡ false)
not-meet act.LockMake r h = absurd (true≢false h)
not-meet (act.Meet c args) r h = absurd (true≢false h)
not-meet a r h = (refl, refl)

not-turn : (l : ℕ) (a : Action) (r : Reply) → concerns_locks a r ≡ false → (turns l a r ≡ false) × (gives_up l a Other r ≡ false)
not-turn l (act.Lock k) Done h = absurd (true≢false h)
not-turn l (act.Attempt k) (Flag true) h = absurd (true≢false h)
not-turn l (act.Unlock k) Done h = absurd (true≢false h)
not-turn l (act.LockFree k) Done h = absurd (true≢false h)
not-turn l a r h = (refl, refl)

-- at the start there is no lock
pub locks-begin : (o : Opening) → LocksAfter o [] []
locks-begin o = record { count = refl; each = λ l made. absurd (omega arith) }

-- an entry that concerns no lock
pub locks-other : (o : Opening) (es : List Entry) (e : Entry) (ls : List LockState) → concerns_locks e.action e.reply ≡ false
    → LocksAfter o es ls → LocksAfter o (es ++ e ∷ []) ls
locks-other o es e ls none h =
    let p = not-meet e.action e.reply none in
    after-step o es e (λ l s. s) ls ls p.0 p.1
    (λ l s.
    let q = not-turn l e.action e.reply none in
    ap (λ b. state (cond b (left_with (Some e)) s.holder) (s.given_up || gives_up l e.action Other e.reply) (s.freed || gives_up l e.action Other e.reply)) q.0
    ∙ ap (λ b. state s.holder (s.given_up || b) (s.freed || b)) q.1
    ∙ same-flags s.holder s.given_up s.freed)
    (changed-none ls) h

held-step : (b : Bool) (now : Option ℕ) (s : LockState)
    → state (cond b now s.holder) (s.given_up || false) (s.freed || false) ≡ cond b (record s { holder = now }) s
held-step true now s = same-flags now s.given_up s.freed
held-step false now s = same-flags s.holder s.given_up s.freed

given-step : (b : Bool) (s : LockState)
    → state s.holder (s.given_up || b) (s.freed || b) ≡ cond b (as_freed (cond b (as_given_up s) s)) (cond b (as_given_up s) s)
given-step true s = all-flags s.holder s.given_up s.freed
given-step false s = same-flags s.holder s.given_up s.freed

module _ (o : Opening) (es : List Entry) (ls : List LockState) (h : LocksAfter o es ls) (t i k : ℕ) where
  -- the thread takes the lock
  pub lock-taken : 0 < k → LocksAfter o (es ++ entry_of t i (act.Lock k) Done ∷ []) (with_lock k (held_by t) ls)
  lock-taken some =
      after-step o es (entry_of t i (act.Lock k) Done) (only k (held_by t)) ls (with_lock k (held_by t) ls) refl refl
      (λ l s. held-step (k == l) (Some t) s) (changed-one k (held_by t) ls some) h

  pub attempt-taken : 0 < k → LocksAfter o (es ++ entry_of t i (act.Attempt k) (Flag true) ∷ []) (with_lock k (held_by t) ls)
  attempt-taken some =
      after-step o es (entry_of t i (act.Attempt k) (Flag true)) (only k (held_by t)) ls (with_lock k (held_by t) ls) refl refl
      (λ l s. held-step (k == l) (Some t) s) (changed-one k (held_by t) ls some) h

  -- it lets the lock go
  pub lock-let_go : 0 < k → LocksAfter o (es ++ entry_of t i (act.Unlock k) Done ∷ []) (with_lock k let_go ls)
  lock-let_go some =
      after-step o es (entry_of t i (act.Unlock k) Done) (only k let_go) ls (with_lock k let_go ls) refl refl
      (λ l s. held-step (k == l) None s) (changed-one k let_go ls some) h

  -- it gives the lock up, which is freed at once
  pub lock-given_up : 0 < k → LocksAfter o (es ++ entry_of t i (act.LockFree k) Done ∷ []) (with_lock k as_freed (with_lock k as_given_up ls))
  lock-given_up some =
      let mid : List LockState = with_lock k as_given_up ls in
      after-step o es (entry_of t i (act.LockFree k) Done) (λ l s. only k as_freed l (only k as_given_up l s)) ls (with_lock k as_freed mid) refl refl
      (λ l s. given-step (k == l) s)
      (changed-then (only k as_given_up) (only k as_freed) ls mid (with_lock k as_freed mid) (changed-one k as_given_up ls some) (changed-one k as_freed mid some)) h

  -- it makes a lock
  pub lock-made : (r : Reply) → AreWellFormed o es → LocksAfter o (es ++ entry_of t i act.LockMake r ∷ []) (ls ++ fresh ∷ [])
  lock-made r formed =
      let e : Entry = entry_of t i act.LockMake r in
      after-made o es (es ++ e ∷ []) ls (locks-push es e)
      (λ l some. after-turned o es e l refl ∙ same-flags (holder l es) (is_given_up l es) (is_freed o l es)) formed h

-- ---- the answers

module _ (o : Opening) (es : List Entry) (ls : List LockState) (h : LocksAfter o es ls) where
  -- a lock that may be asked for is made
  pub asked-made : (k : ℕ) → is_lock es k ≡ true → IsMade k ls
  asked-made k f =
      let p = and_parts (nat_lt 0 k) (nat_le k (locks es)) f in
      let some : 0 < k = ltb-true 0 k p.0 in
      let few : k ≤ locks es = leb-true k (locks es) p.1 in
      let many = h.count in
      (some, omega arith)

  pub lock-answers : (t k : ℕ) → IsMade k ls → reply o es t (act.Lock k) ≡ lock_answer t (lock_of k ls)
  lock-answers t k made = ap (lock_answer t) (sym (h.each k made))

  pub attempt-answers : (t k : ℕ) → IsMade k ls → reply o es t (act.Attempt k) ≡ Some (attempt_answer (lock_of k ls))
  attempt-answers t k made = ap (λ s. Some (attempt_answer s)) (sym (h.each k made))

  pub unlock-answers : (t k : ℕ) → IsMade k ls → reply o es t (act.Unlock k) ≡ Some (unlock_answer t (lock_of k ls))
  unlock-answers t k made = ap (λ s. Some (unlock_answer t s)) (sym (h.each k made))

  pub give_up-answers : (t k : ℕ) → IsMade k ls → reply o es t (act.LockFree k) ≡ Some (give_up_answer (lock_of k ls))
  give_up-answers t k made = ap (λ s. Some (give_up_answer s)) (sym (h.each k made))

  -- a new lock's number is the next one
  pub lock_make-answers : (t : ℕ) → reply o es t act.LockMake ≡ Some (Value (Lock (length ls + 1)))
  lock_make-answers t = ap (λ n. Some (Value (Lock (n + 1)))) (sym h.count)
