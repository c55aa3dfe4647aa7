-- The locks after a collective call.
use Rattle.std.proofs.Common.{◌≡◌, ℕ, ◌+◌, ◌<◌, ◌≤◌, ◌==◌, Bool, true, false, not, cond, ◌&&◌, ◌||◌, inl, inr, List, [], ◌∷◌, ◌++◌, length, Option, Some, None, refl, sym, ap, subst, ◌∙◌, arith, add-zero, leb-true, eq-eqb, ne_eqb, eqb-true}
use mathlib.Core.Bool.{or-false}
use Rattle.std.proofs.lemmas.Bool.{cases_eq, true≢false, eqb-false}
use Rattle.block_layout.specs.declared.run_error.TheConstants.{LOCK_FREED}
use Rattle.upc_values.specs.declared.scalar.Scalar.{Scalar}
use Rattle.upc_values.specs.declared.scalar.Scalar.TheVariants.{Lock}
use Rattle.upc_values.specs.declared.action.Action.TheVariants as act
use Rattle.upc_values.specs.declared.action.Reply.{Reply}
use Rattle.upc_values.specs.declared.action.Reply.TheVariants.{Done, Value, Refused}
use Rattle.upc_values.specs.declared.journal.Entry.{Entry}
use Rattle.upc_values.specs.Drain.{entry_of}
use Rattle.upc_values.specs.Calls.{Call, Makes_lock, Frees_lock, Other, call_of}
use Rattle.upc_values.specs.Openings.{Opening}
use Rattle.upc_values.specs.History.{leader, meets, led, asked, makes_lock, locks, gives_up, is_given_up, is_freed, all_met, holder, notifies, led_reply}
use Rattle.upc_values.specs.Formed.{may_call, AreWellFormed}
use Rattle.sync_objects.specs.declared.locks.LockState.{LockState}
use Rattle.sync_objects.specs.layer.Locks.{fresh, IsMade, lock_of, as_given_up, as_freed, give_up_answer, lock_after}
use Rattle.memory_history.specs.code.MeetsAfter.{LeaderState, MeetsState, MeetsAfter, times, is_leading, nobody, leader_at, called, met_with}
use Rattle.memory_history.specs.code.LocksAfter.{LocksAfter, given_up_by, with_some, locks_led, locks_met, locks_after_meet}
use Rattle.memory_history.proofs.Growing.{locks-push, given_up-push, holder-push}
use Rattle.memory_history.proofs.Leaders.{cond_same}
use Rattle.memory_history.proofs.Meeting.{led-same, all-same, meets-met, met-within, led-leader}
use Rattle.memory_history.proofs.Freeing.{leader_gives, leader-given_up, freed-meet}
use Rattle.memory_history.proofs.Unmade.{given_up-made}
use Rattle.memory_history.proofs.LockSteps.{Changed, only, changed-none, changed-one, changed-then, after-changed, after-made, state}

turned_round : (g : Bool) → cond (not g) Done (Refused LOCK_FREED) ≡ cond g (Refused LOCK_FREED) Done
turned_round true = refl
turned_round false = refl

-- ---- what a call gives up

-- the lock is that one
abbrev is_some_lock : ℕ → Option ℕ → Bool
is_some_lock l (Some k) = k == l
is_some_lock l None = false

not_null : (l k : ℕ) (b : Bool) → 0 < l → (k == 0) ≡ b → (k == l) ≡ is_some_lock l (cond b None (Some k))
not_null l k true some q = let z : k ≡ 0 = eqb-true k 0 q in ne_eqb k l (λ e. omega arith)
not_null l k false some q = refl

gives-lock : (l c : ℕ) (args : List Scalar) (call : Call) (r : Reply) → 0 < l → gives_up l (act.Meet c args) call r ≡ is_some_lock l (given_up_by call r)
gives-lock l c args (Frees_lock k) Done some = not_null l k (k == 0) some refl
gives-lock l c args call r some = refl

null-none : (k n : ℕ) (b : Bool) → (k == 0) ≡ b → cond b None (Some k) ≡ Some n → 0 < n
null-none k n true q h = absurd cc
null-none k n false q h =
    let e : k ≡ n = cc in
    elim (cases_eq k 0) [
      | inl z ↦ absurd (true≢false (sym (eq-eqb k 0 z) ∙ q))
      | inr ne ↦ omega arith
    ]

-- null is given up by none
pub given-some : (call : Call) (r : Reply) (n : ℕ) → given_up_by call r ≡ Some n → 0 < n
given-some (Frees_lock k) Done n h = null-none k n (k == 0) refl h
given-some call r n h = absurd cc

-- so it becomes of that lock, if there is one
abbrev some_only : Option ℕ → (LockState → LockState) → ℕ → LockState → LockState
some_only (Some k) become l s = only k become l s
some_only None become l s = s

changed-some : (w : Option ℕ) (become : LockState → LockState) (ls : List LockState) → ((k : ℕ) → w ≡ Some k → 0 < k)
    → Changed (some_only w become) ls (with_some w become ls)
changed-some (Some k) become ls some = changed-one k become ls (some k refl)
changed-some None become ls some = changed-none ls

if_all : Bool → Option ℕ → ℕ → LockState → LockState
if_all all w l s = cond all (some_only w as_freed l s) s

changed-all : (all : Bool) (w : Option ℕ) (ls : List LockState) → ((k : ℕ) → w ≡ Some k → 0 < k)
    → Changed (if_all all w) ls (cond all (with_some w as_freed ls) ls)
unfolding if_all
changed-all true w ls some = changed-some w as_freed ls some
changed-all false w ls some = changed-none ls

given-only : (w : Option ℕ) (l : ℕ) (s : LockState) → state s.holder (s.given_up || is_some_lock l w) s.freed ≡ some_only w as_given_up l s
given-only None l s = ap (λ g. state s.holder g s.freed) (or-false s.given_up)
given-only (Some k) l s = go (k == l) s.given_up
  where
    go : (b g : Bool) → state s.holder (g || b) s.freed ≡ cond b (state s.holder true s.freed) (state s.holder g s.freed)
    go true true = refl
    go true false = refl
    go false g = ap (λ x. state s.holder x s.freed) (or-false g)

freed-only : (all : Bool) (w : Option ℕ) (l : ℕ) (s : LockState) → state s.holder s.given_up (s.freed || (all && is_some_lock l w)) ≡ if_all all w l s
unfolding if_all
freed-only false w l s = ap (λ d. state s.holder s.given_up d) (or-false s.freed)
freed-only true None l s = ap (λ d. state s.holder s.given_up d) (or-false s.freed)
freed-only true (Some k) l s = go (k == l) s.freed
  where
    go : (b d : Bool) → state s.holder s.given_up (d || b) ≡ cond b (state s.holder s.given_up true) (state s.holder s.given_up d)
    go true true = refl
    go true false = refl
    go false d = ap (λ x. state s.holder s.given_up x) (or-false d)

-- ---- what leaders have given up

module _ (o : Opening) (es : List Entry) (m : MeetsState) (h : MeetsAfter o es m) where
  -- by the leader of a call
  leader-lock : (l j : ℕ) → 0 < l → j < length m.leaders
      → leader_gives l (leader j es) ≡ is_some_lock l (given_up_by (called (leader_at j m)) (leader_at j m).reply)
  leader-lock l j some lt =
      let x = leader_at j m in
      let k = h.led j nobody lt in
      ap (leader_gives l) k.is
      ∙ ap (λ a. gives_up l a (asked a) k.lead.entry.reply) k.action
      ∙ ap (λ r. gives_up l (act.Meet x.call x.args) (called x) r) k.reply
      ∙ gives-lock l x.call x.args (called x) x.reply some

  -- such a lock is made, and given up
  pub leader-made : (ls : List LockState) (j k : ℕ) → LocksAfter o es ls → AreWellFormed o es → j < length m.leaders
      → given_up_by (called (leader_at j m)) (leader_at j m).reply ≡ Some k → IsMade k ls × ((lock_of k ls).given_up ≡ true)
  leader-made ls j k s formed lt q =
      let some : 0 < k = given-some (called (leader_at j m)) (leader_at j m).reply k q in
      let gave : leader_gives k (leader j es) ≡ true = leader-lock k j some lt ∙ ap (is_some_lock k) q ∙ eq-eqb k k refl in
      let given : is_given_up k es ≡ true = leader-given_up k j es gave in
      let few : k ≤ locks es = given_up-made o k es formed given in
      let many = s.count in
      let made : IsMade k ls = (some, omega arith) in
      (made, ap (λ z. z.given_up) (s.each k made) ∙ given)

-- ---- after one more

module _ (o : Opening) (es : List Entry) (m : MeetsState) (h : MeetsAfter o es m) (ls : List LockState) (s : LocksAfter o es ls) (formed : AreWellFormed o es) where
  module _ (t i c : ℕ) (args : List Scalar) (r : Reply) (b : t < o.threads) where
    abbrev e : Entry
    e = entry_of t i (act.Meet c args) r

    abbrev now : List Entry
    now = es ++ e ∷ []

    -- the leader of its call
    abbrev x : LeaderState
    x = leader_at (times t m) (met_with t c args (notifies t es) r m)

    all : Bool
    all = x.done == o.threads

    all_now : all_met o (length (meets t es)) now ≡ all
    unfolding all
    all_now =
        ap (λ j. all_met o j now) (sym (h.met t b))
        ∙ all-same o now (met_with t c args (notifies t es) r m) (meets-met o es m h t i c args r b) (times t m) (met-within o es m h t i c args r b)

    gave_now : (l : ℕ) → 0 < l → leader_gives l (leader (length (meets t es)) now) ≡ is_some_lock l (given_up_by (called x) x.reply)
    gave_now l some =
        ap (λ j. leader_gives l (leader j now)) (sym (h.met t b))
        ∙ leader-lock o now (met_with t c args (notifies t es) r m) (meets-met o es m h t i c args r b) l (times t m) some (met-within o es m h t i c args r b)

    led_now : (lead : Bool) → is_leading t m ≡ lead → led es e ≡ cond lead (call_of c args) Other
    led_now lead q = led-same o es m h e b ∙ ap (λ y. cond y (call_of c args) Other) q

    -- what becomes of a lock, where the call leads as `call`
    step : (call : Call) (w : Option ℕ) → led es e ≡ call → given_up_by call r ≡ w → (l : ℕ) → 0 < l
        → lock_after o now l ≡ if_all all (given_up_by (called x) x.reply) l (some_only w as_given_up l (lock_after o es l))
    step call w leads gives l some =
        let g : Bool = is_given_up l es || is_some_lock l w in
        let mid : LockState = state (holder l es) g (is_freed o l es) in
        ap (λ y. state y (is_given_up l now) (is_freed o l now)) (holder-push l es e)
        ∙ ap (λ y. state (holder l es) y (is_freed o l now))
        (given_up-push l es e
        ∙ ap (λ y. is_given_up l es || gives_up l (act.Meet c args) y r) leads
        ∙ ap (λ y. is_given_up l es || y) (gives-lock l c args call r some)
        ∙ ap (λ y. is_given_up l es || is_some_lock l y) gives)
        ∙ ap (λ y. state (holder l es) g y)
        (freed-meet o l es e refl b
        ∙ ap (λ y. is_freed o l es || (y && leader_gives l (leader (length (meets t es)) now))) all_now
        ∙ ap (λ y. is_freed o l es || (all && y)) (gave_now l some))
        ∙ freed-only all (given_up_by (called x) x.reply) l mid
        ∙ ap (if_all all (given_up_by (called x) x.reply) l) (given-only w l (lock_after o es l))

    -- a call that makes no lock
    others : (call : Call) → led es e ≡ call → makes_lock (act.Meet c args) call ≡ false
        → LocksAfter o now (locks_met all (called x) x.reply (with_some (given_up_by call r) as_given_up ls))
    others call leads none =
        let w = given_up_by call r in
        let v = given_up_by (called x) x.reply in
        let mid : List LockState = with_some w as_given_up ls in
        after-changed o es now (λ l z. if_all all v l (some_only w as_given_up l z)) ls (locks_met all (called x) x.reply mid)
        (changed-then (some_only w as_given_up) (if_all all v) ls mid (locks_met all (called x) x.reply mid)
        (changed-some w as_given_up ls (given-some call r))
        (changed-all all v mid (given-some (called x) x.reply)))
        (locks-push es e ∙ ap (λ y. locks es + cond (makes_lock (act.Meet c args) y) 1 0) leads
        ∙ ap (λ y. locks es + cond y 1 0) none ∙ add-zero (locks es))
        (step call w leads refl) s

    -- one that makes a lock
    making : is_leading t m ≡ true → call_of c args ≡ Makes_lock → LocksAfter o now (locks_met all (called x) x.reply (ls ++ fresh ∷ []))
    unfolding if_all
    making lead q =
        let leads : led es e ≡ Makes_lock = led_now true lead ∙ q in
        let mid : List LockState = ls ++ fresh ∷ [] in
        let v = given_up_by (called x) x.reply in
        let none : v ≡ None =
        ap (λ z. given_up_by (called z) z.reply) (led-leader m t c args (notifies t es) r lead) ∙ ap (λ y. given_up_by y r) q in
        let after : LocksAfter o now mid =
        after-made o es now ls (locks-push es e ∙ ap (λ y. locks es + cond (makes_lock (act.Meet c args) y) 1 0) leads)
        (λ l some.
        step Makes_lock None leads refl l some ∙ ap (λ w. if_all all w l (lock_after o es l)) none ∙ cond_same all (lock_after o es l)) formed s in
        subst (LocksAfter o now) (sym (ap (λ w. cond all (with_some w as_freed mid) mid) none ∙ cond_same all mid)) after

    meet-go : (call : Call) (lead : Bool) → call_of c args ≡ call → is_leading t m ≡ lead
        → LocksAfter o now (locks_met all (called x) x.reply (cond lead (locks_led call r ls) ls))
    meet-go Makes_lock true q z = making z q
    meet-go call true q z = others call (led_now true z ∙ q) refl
    meet-go call false q z = others Other (led_now false z) refl

    -- the locks after a collective call
    pub meet-locks : LocksAfter o (es ++ entry_of t i (act.Meet c args) r ∷ []) (locks_after_meet o.threads t c args (notifies t es) r m ls)
    unfolding all
    meet-locks = meet-go (call_of c args) (is_leading t m) refl refl

-- ---- the replies to the calls that make a lock and give one up

module _ (o : Opening) (es : List Entry) (ls : List LockState) (h : LocksAfter o es ls) where
  pub makes_lock-answers : led_reply o es Makes_lock ≡ Value (Lock (length ls + 1))
  makes_lock-answers = ap (λ n. Value (Lock (n + 1))) (sym h.count)

  -- a lock that may be given up is null or made
  pub freed-made : (l : ℕ) → may_call o es (Frees_lock l) ≡ true → (l == 0) ≡ false → IsMade l ls
  freed-made l f some =
      let few : l ≤ locks es = leb-true l (locks es) f in
      let many = h.count in
      let ne : l ≡ 0 → ⊥ = eqb-false l 0 some in
      (omega arith, omega arith)

  pub frees_lock-answers : (l : ℕ) → may_call o es (Frees_lock l) ≡ true → led_reply o es (Frees_lock l) ≡ cond (l == 0) Done (give_up_answer (lock_of l ls))
  frees_lock-answers l f = go (l == 0) refl
    where
      go : (b : Bool) → (l == 0) ≡ b → led_reply o es (Frees_lock l) ≡ cond (l == 0) Done (give_up_answer (lock_of l ls))
      go true q =
          ap (λ b. cond (b || not (is_given_up l es)) Done (Refused LOCK_FREED)) q
          ∙ sym (ap (λ b. cond b Done (give_up_answer (lock_of l ls))) q)
      go false q =
          ap (λ b. cond (b || not (is_given_up l es)) Done (Refused LOCK_FREED)) q
          ∙ turned_round (is_given_up l es)
          ∙ ap give_up_answer (sym (h.each l (freed-made l f q)))
          ∙ sym (ap (λ b. cond b Done (give_up_answer (lock_of l ls))) q)
