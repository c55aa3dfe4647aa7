-- The parts that have acted stand as the history leaves them after one more entry.
use Rattle.std.proofs.Common.{◌≡◌, ℕ, ◌+◌, ◌*◌, ◌<◌, ◌==◌, nat_lt, nat_le, Bool, true, false, cond, List, [], ◌∷◌, ◌++◌, length, Option, Some, None, refl, sym, ap, subst, ◌∙◌, ltb-true}
use Rattle.std.proofs.lemmas.Bool.{and_parts, cond_both, leb-true}
use Rattle.block_layout.specs.declared.place.Loc.{Loc}
use Rattle.block_layout.specs.declared.place.SharedPtr.{SharedPtr}
use Rattle.block_layout.specs.declared.run_error.TheConstants.{BAD_FREE, SHARED_SPACE}
use Rattle.block_layout.specs.Pointers.{null, is_null}
use Rattle.upc_values.specs.declared.scalar.Scalar.{Scalar}
use Rattle.upc_values.specs.declared.scalar.Scalar.TheVariants.{Shared}
use Rattle.upc_values.specs.declared.action.Action.{Action}
use Rattle.upc_values.specs.declared.action.Action.TheVariants as act
use Rattle.upc_values.specs.declared.action.Reply.{Reply}
use Rattle.upc_values.specs.declared.action.Reply.TheVariants.{Done, Value, Flag, Refused}
use Rattle.upc_values.specs.declared.journal.Entry.{Entry}
use Rattle.upc_values.specs.Drain.{entry_of}
use Rattle.upc_values.specs.Calls.{Call, Allocates, Frees, Frees_lock, call_of}
use Rattle.upc_values.specs.Openings.{Opening, bytes_of}
use Rattle.upc_values.specs.History as history
use Rattle.upc_values.specs.History.{reply, leader, meets, is_notify, is_wait, is_meet}
use Rattle.upc_values.specs.Formed as formed
use Rattle.upc_values.specs.Formed.{IsWellFormed}
use Rattle.sync_objects.specs.declared.locks.LockState.{LockState}
use Rattle.sync_objects.specs.layer.Locks.{with_lock, as_given_up, as_freed}
use Rattle.sync_objects.specs.declared.attendance.Attendance.{Attendance}
use Rattle.shared_heap.specs.layer.Heap.{HeapState, all_objects, new_object, with_object, without_object, grow_answer, release_answer, is_live_start}
use Rattle.memory_history.specs.declared.calls.Asked.TheVariants as asks
use Rattle.memory_history.specs.code.Calls.{asked_of}
use Rattle.memory_history.specs.code.HeapAfter.{HeapAfter}
use Rattle.memory_history.specs.code.LocksAfter.{LocksAfter, given_up_by, with_some, locks_led, locks_met, locks_after_meet, concerns_locks}
use Rattle.memory_history.specs.code.BarrierAfter.{BarrierAfter}
use Rattle.memory_history.specs.code.MeetsAfter.{MeetsState, MeetsAfter, times, is_leading, leader_at, called, met_with, joined_answer}
use Rattle.memory_history.specs.code.After.{PartsState, IsAfter}
use Rattle.memory_history.specs.layer.World.{IsKept}
use Rattle.memory_history.specs.layer.Turns.{takes_turn}
use Rattle.memory_history.specs.code.Acting.{with_heap, with_locks, with_barrier, with_meets, led_answer, meet_answer, notifies, led, met_by_all, ended, met, next, Acted}
use Rattle.memory_history.proofs.HeapReplies.{may_lead_alloc}
use Rattle.memory_history.proofs.HeapSteps.{IsStill, still-push, is_quiet, quiet-still, refused-still, follow-still, is_heap_call, lead-still, lead_null-still, lead_free_null-still, write-push, alloc-push, lead_alloc-push, free-push, lead_free-push}
use Rattle.memory_history.proofs.LockSteps.{locks-other, lock-taken, attempt-taken, lock-let_go, lock-given_up, lock-made}
use Rattle.memory_history.proofs.MeetLocks.{meet-locks}
use Rattle.memory_history.proofs.Attending.{barrier-other, barrier-notify, barrier-wait, wait-ready, notifies-attended}
use Rattle.memory_history.proofs.Meeting.{no_leader, has_leader, meets-other, meets-met}
use Rattle.memory_history.proofs.Asking.{answer-same}

-- ---- what a collective call changes, part by part

by_all-same : (c : Call) (r : Reply) (z : PartsState) → met_by_all (asked_of c) r z ≡ with_locks (with_some (given_up_by c r) as_freed z.locks) z
by_all-same (Frees_lock l) Done z =
    elim (l == 0) as (λ v. cond v z (with_locks (with_lock l as_freed z.locks) z) ≡ with_locks (with_some (cond v None (Some l)) as_freed z.locks) z)
    [ true ↦ refl | false ↦ refl ]
by_all-same c r z = refl

ended-same : (j : ℕ) (z : PartsState) → let x = leader_at j z.meets in
    ended j z ≡ with_locks (locks_met (x.done == z.heap.opening.threads) (called x) x.reply z.locks) z
ended-same j z =
    let x = leader_at j z.meets in
    elim (x.done == z.heap.opening.threads)
    as (λ v. cond v (met_by_all (asked_of (called x)) x.reply z) z ≡ with_locks (locks_met v (called x) x.reply z.locks) z)
    [ true ↦ by_all-same (called x) x.reply z | false ↦ refl ]

led-same : (c : Call) (r : Reply) (z : PartsState) → led (asked_of c) r z ≡ with_locks (locks_led c r z.locks) (with_heap (led (asked_of c) r z).heap z)
led-same (Allocates n b s) (Value (Shared y)) z =
    let q = with_heap (with_object y.object z.heap) z in
    elim (n * b == 0) as (λ v. cond v z q ≡ with_locks z.locks (with_heap (cond v z q).heap z)) [ true ↦ refl | false ↦ refl ]
led-same (Frees y) Done z =
    let q = with_heap (without_object y.object.number z.heap) z in
    elim (is_null y) as (λ v. cond v z q ≡ with_locks z.locks (with_heap (cond v z q).heap z)) [ true ↦ refl | false ↦ refl ]
led-same (Frees_lock l) Done z =
    elim (l == 0)
    as (λ v. cond v z (with_locks (with_lock l as_given_up z.locks) z)
    ≡ with_locks (with_some (cond v None (Some l)) as_given_up z.locks) (with_heap (cond v z (with_locks (with_lock l as_given_up z.locks) z)).heap z))
    [ true ↦ refl | false ↦ refl ]
led-same c r z = refl

led-opening : (c : Call) (r : Reply) (z : PartsState) → (led (asked_of c) r z).heap.opening ≡ z.heap.opening
led-opening (Allocates n b s) (Value (Shared y)) z =
    cond_both (n * b == 0) z (with_heap (with_object y.object z.heap) z) (λ w. w.heap.opening ≡ z.heap.opening) (λ _. refl) (λ _. refl)
led-opening (Frees y) Done z =
    cond_both (is_null y) z (with_heap (without_object y.object.number z.heap) z) (λ w. w.heap.opening ≡ z.heap.opening) (λ _. refl) (λ _. refl)
led-opening (Frees_lock l) Done z =
    cond_both (l == 0) z (with_locks (with_lock l as_given_up z.locks) z) (λ w. w.heap.opening ≡ z.heap.opening) (λ _. refl) (λ _. refl)
led-opening c r z = refl

-- the parts after a collective call, one by one
met-same : (t c : ℕ) (args : List Scalar) (r : Reply) (p : PartsState)
    → met t c args r p
    ≡ record {
      heap = cond (is_leading t p.meets) (led (asked_of (call_of c args)) r p).heap p.heap;
      locks = locks_after_meet p.heap.opening.threads t c args (notifies t p) r p.meets p.locks;
      barrier = p.barrier;
      meets = met_with t c args (notifies t p) r p.meets;
    }
met-same t c args r p = go (is_leading t p.meets) m
  where
    m : MeetsState
    m = met_with t c args (notifies t p) r p.meets

    go : (b : Bool) (m : MeetsState)
        → ended (times t p.meets) (with_meets m (cond b (led (asked_of (call_of c args)) r p) p))
        ≡ record {
          heap = cond b (led (asked_of (call_of c args)) r p).heap p.heap;
          locks =
              (let x = leader_at (times t p.meets) m in
              locks_met (x.done == p.heap.opening.threads) (called x) x.reply (cond b (locks_led (call_of c args) r p.locks) p.locks));
          barrier = p.barrier;
          meets = m;
        }
    go true m =
        let x = leader_at (times t p.meets) m in
        let call = call_of c args in
        ap (λ z. ended (times t p.meets) (with_meets m z)) (led-same call r p)
        ∙ ended-same (times t p.meets) (with_meets m (with_locks (locks_led call r p.locks) (with_heap (led (asked_of call) r p).heap p)))
        ∙ ap (λ (n : Opening).
        with_locks (locks_met (x.done == n.threads) (called x) x.reply (locks_led call r p.locks))
        (with_meets m (with_heap (led (asked_of call) r p).heap p))) (led-opening call r p)
    go false m = ended-same (times t p.meets) (with_meets m p)

-- ---- after one more entry

module _ (o : Opening) (es : List Entry) (p : PartsState) (k : IsKept o es) (a : IsAfter o es p) (t i : ℕ) (b : t < o.threads) where
  abbrev now : Action → Reply → List Entry
  now x r = es ++ entry_of t i x r ∷ []

  -- of an action that concerns the heap alone
  heap-after : (x : Action) (r : Reply) (h : HeapState) → HeapAfter o (now x r) h
      → is_notify x ≡ false → is_wait x ≡ false → concerns_locks x r ≡ false → is_meet x ≡ false → IsAfter o (now x r) (with_heap h p)
  heap-after x r h s n w l m =
      let e = entry_of t i x r in record {
        heap = s;
        locks = locks-other o es e p.locks l a.locks;
        barrier = barrier-other o es e p.barrier n w a.barrier;
        meets = meets-other o es p.meets a.meets e m;
      }

  still-after : (x : Action) (r : Reply) → IsStill es (entry_of t i x r)
      → is_notify x ≡ false → is_wait x ≡ false → concerns_locks x r ≡ false → is_meet x ≡ false → IsAfter o (now x r) p
  still-after x r s n w l m = heap-after x r p.heap (still-push o es (entry_of t i x r) p.heap a.heap s) n w l m

  -- of one that concerns nothing
  quiet-after : (x : Action) (r : Reply) → is_quiet x ≡ true
      → is_notify x ≡ false → is_wait x ≡ false → concerns_locks x r ≡ false → is_meet x ≡ false → IsAfter o (now x r) p
  quiet-after x r q n w l m = still-after x r (quiet-still es t i x r q) n w l m

  -- of one that concerns the locks alone
  locks-after : (x : Action) (r : Reply) (ls : List LockState) → LocksAfter o (now x r) ls → is_quiet x ≡ true
      → is_notify x ≡ false → is_wait x ≡ false → is_meet x ≡ false → IsAfter o (now x r) (with_locks ls p)
  locks-after x r ls s q n w m =
      let e = entry_of t i x r in record {
        heap = still-push o es e p.heap a.heap (quiet-still es t i x r q);
        locks = s;
        barrier = barrier-other o es e p.barrier n w a.barrier;
        meets = meets-other o es p.meets a.meets e m;
      }

  -- of one that concerns the barrier alone
  barrier-after : (x : Action) (r : Reply) (bs : List Attendance) → BarrierAfter o (now x r) bs → is_quiet x ≡ true
      → concerns_locks x r ≡ false → is_meet x ≡ false → IsAfter o (now x r) (with_barrier bs p)
  barrier-after x r bs s q l m =
      let e = entry_of t i x r in record {
        heap = still-push o es e p.heap a.heap (quiet-still es t i x r q);
        locks = locks-other o es e p.locks l a.locks;
        barrier = s;
        meets = meets-other o es p.meets a.meets e m;
      }

  some-lock : (l : ℕ) → formed.is_lock es l ≡ true → 0 < l
  some-lock l f = ltb-true 0 l (and_parts (nat_lt 0 l) (nat_le l (history.locks es)) f).0

  lock-after : (l : ℕ) (r : Reply) → formed.is_lock es l ≡ true → IsAfter o (now (act.Lock l) r) (next t (act.Lock l) r p)
  lock-after l Done f = locks-after (act.Lock l) Done _ (lock-taken o es p.locks a.locks t i l (some-lock l f)) refl refl refl refl
  lock-after l r f = quiet-after (act.Lock l) r refl refl refl refl refl

  attempt-after : (l : ℕ) (r : Reply) → formed.is_lock es l ≡ true → IsAfter o (now (act.Attempt l) r) (next t (act.Attempt l) r p)
  attempt-after l (Flag true) f = locks-after (act.Attempt l) (Flag true) _ (attempt-taken o es p.locks a.locks t i l (some-lock l f)) refl refl refl refl
  attempt-after l r f = quiet-after (act.Attempt l) r refl refl refl refl refl

  unlock-after : (l : ℕ) (r : Reply) → formed.is_lock es l ≡ true → IsAfter o (now (act.Unlock l) r) (next t (act.Unlock l) r p)
  unlock-after l Done f = locks-after (act.Unlock l) Done _ (lock-let_go o es p.locks a.locks t i l (some-lock l f)) refl refl refl refl
  unlock-after l r f = quiet-after (act.Unlock l) r refl refl refl refl refl

  free_lock-after : (l : ℕ) (r : Reply) → formed.is_lock es l ≡ true → IsAfter o (now (act.LockFree l) r) (next t (act.LockFree l) r p)
  free_lock-after l Done f = locks-after (act.LockFree l) Done _ (lock-given_up o es p.locks a.locks t i l (some-lock l f)) refl refl refl refl
  free_lock-after l r f = quiet-after (act.LockFree l) r refl refl refl refl refl

  alloc-after : (n c : ℕ) (h : Option ℕ) (s : ℕ) (r : Reply) → IsWellFormed o es (act.Alloc n c h s) → grow_answer p.heap n c h s ≡ r
      → IsAfter o (now (act.Alloc n c h s) r) (next t (act.Alloc n c h s) r p)
  alloc-after n c h s r f e =
      let x = act.Alloc n c h s in
      let y = new_object p.heap n c h s in
      let P : Reply → Type 0 = λ z. IsAfter o (now x z) (next t x z p) in
      subst P e
      (cond_both (nat_lt 16777216 (bytes_of (all_objects p.heap) + n * c)) (Refused SHARED_SPACE) (Value (Shared y))
      (λ z. grow_answer p.heap n c h s ≡ z → P z)
      (λ _ _. still-after x (Refused SHARED_SPACE) (refused-still es t i x SHARED_SPACE refl) refl refl refl refl)
      (λ _ w. heap-after x (Value (Shared y)) (with_object y.object p.heap)
      (alloc-push o es t i n c h s y p.heap k.opening k.legal k.formed a.heap f w) refl refl refl refl)
      refl)

  free-after : (y : SharedPtr) (r : Reply) → release_answer y p.heap ≡ r → IsAfter o (now (act.Free y) r) (next t (act.Free y) r p)
  free-after y r e =
      let x = act.Free y in
      let P : Reply → Type 0 = λ z. IsAfter o (now x z) (next t x z p) in
      subst P e
      (cond_both (is_live_start y p.heap.made p.heap.released) Done (Refused BAD_FREE) P
      (λ _. heap-after x Done (without_object y.object.number p.heap) (free-push o es t i y p.heap a.heap) refl refl refl refl)
      (λ _. still-after x (Refused BAD_FREE) (refused-still es t i x BAD_FREE refl) refl refl refl refl))

  -- ---- collective calls

  -- the heap, where the thread leads
  lead-heap : (c : ℕ) (args : List Scalar) (call : Call) (r : Reply) → call_of c args ≡ call → leader (length (meets t es)) es ≡ None
      → IsWellFormed o es (act.Meet c args) → led_answer p (asked_of call) ≡ r
      → HeapAfter o (now (act.Meet c args) r) (led (asked_of call) r p).heap
  lead-heap c args (Allocates n d s) r q none f e =
      let x = act.Meet c args in
      let y = new_object p.heap n d None s in
      let A = asks.Allocates n d s in
      let P : Reply → Type 0 = λ z. HeapAfter o (now x z) (led A z p).heap in
      let same : (v : Bool) (z : SharedPtr) → (n * d == 0) ≡ v
      → (cond v p (with_heap (with_object z.object p.heap) p)).heap ≡ (led A (Value (Shared z)) p).heap =
      λ v z w. ap (λ u. (cond u p (with_heap (with_object z.object p.heap) p)).heap) (sym w) in
      subst P e
      (cond_both (n * d == 0) (Value (Shared null)) (grow_answer p.heap n d None s) P
      (λ w. subst (HeapAfter o (now x (Value (Shared null)))) (same true null w)
      (still-push o es (entry_of t i x (Value (Shared null))) p.heap a.heap (lead_null-still es t i c args)))
      (λ w.
      cond_both (nat_lt 16777216 (bytes_of (all_objects p.heap) + n * d)) (Refused SHARED_SPACE) (Value (Shared y))
      (λ z. grow_answer p.heap n d None s ≡ z → P z)
      (λ _ _. still-push o es (entry_of t i x (Refused SHARED_SPACE)) p.heap a.heap (refused-still es t i x SHARED_SPACE refl))
      (λ _ g. subst (HeapAfter o (now x (Value (Shared y)))) (same false y w)
      (lead_alloc-push o es t i c args n d s y p.heap k.opening k.legal k.formed a.heap none q (may_lead_alloc o es c args n d s f q w) g))
      refl))
  lead-heap c args (Frees y) r q none f e =
      let x = act.Meet c args in
      let P : Reply → Type 0 = λ z. HeapAfter o (now x z) (led (asks.Frees y) z p).heap in
      let same : (v : Bool) → is_null y ≡ v
      → (cond v p (with_heap (without_object y.object.number p.heap) p)).heap ≡ (led (asks.Frees y) Done p).heap =
      λ v w. ap (λ u. (cond u p (with_heap (without_object y.object.number p.heap) p)).heap) (sym w) in
      subst P e
      (cond_both (is_null y) Done (release_answer y p.heap) P
      (λ w. subst (HeapAfter o (now x Done)) (same true w)
      (still-push o es (entry_of t i x Done) p.heap a.heap (lead_free_null-still es t i c args y none q w)))
      (λ w.
      cond_both (is_live_start y p.heap.made p.heap.released) Done (Refused BAD_FREE) P
      (λ _. subst (HeapAfter o (now x Done)) (same false w) (lead_free-push o es t i c args y p.heap a.heap none q w))
      (λ _. still-push o es (entry_of t i x (Refused BAD_FREE)) p.heap a.heap (refused-still es t i x BAD_FREE refl))))
  lead-heap c args (Frees_lock l) r q none f e =
      let x = act.Meet c args in
      subst (HeapAfter o (now x r)) (sym (lock-heap r))
      (still-push o es (entry_of t i x r) p.heap a.heap (lead-still es t i c args r none (ap is_heap_call q)))
    where
      lock-heap : (r : Reply) → (led (asks.FreesLock l) r p).heap ≡ p.heap
      lock-heap Done = cond_both (l == 0) p (with_locks (with_lock l as_given_up p.locks) p) (λ z. z.heap ≡ p.heap) (λ _. refl) (λ _. refl)
      lock-heap r = refl
  lead-heap c args call r q none f e =
      still-push o es (entry_of t i (act.Meet c args) r) p.heap a.heap (lead-still es t i c args r none (ap is_heap_call q))

  some-same : (x y : Reply) → Some x ≡ Some y → x ≡ y
  some-same x y h = cc

  meet-heap : (c : ℕ) (args : List Scalar) (r : Reply) → IsWellFormed o es (act.Meet c args) → meet_answer t c args p ≡ r
      → HeapAfter o (now (act.Meet c args) r) (cond (is_leading t p.meets) (led (asked_of (call_of c args)) r p).heap p.heap)
  meet-heap c args r f e =
      let x = act.Meet c args in
      let first = (led (asked_of (call_of c args)) r p).heap in
      let A : Reply = led_answer p (asked_of (call_of c args)) in
      let B : Reply = joined_answer (notifies t p) c args (leader_at (times t p.meets) p.meets) in
      cond_both (is_leading t p.meets) first p.heap (HeapAfter o (now x r))
      (λ q. lead-heap c args (call_of c args) r refl (no_leader o es p.meets a.meets t b q) f (sym (ap (λ z. cond z A B) q) ∙ e))
      (λ q.
      let w = has_leader o es p.meets a.meets t b q in
      still-push o es (entry_of t i x r) p.heap a.heap (follow-still es t i c args r w.0 w.1))

  meet-after : (c : ℕ) (args : List Scalar) (r : Reply) → IsWellFormed o es (act.Meet c args) → meet_answer t c args p ≡ r
      → IsAfter o (now (act.Meet c args) r) (met t c args r p)
  meet-after c args r f e =
      let x = act.Meet c args in
      let n : history.notifies t es ≡ notifies t p = notifies-attended o es p.barrier a.barrier t b in
      subst (IsAfter o (now x r)) (sym (met-same t c args r p)) record {
        heap = meet-heap c args r f e;
        locks =
            subst (λ (z : Opening). LocksAfter o (now x r) (locks_after_meet z.threads t c args (notifies t p) r p.meets p.locks)) (sym a.heap.begun)
            (subst (λ z. LocksAfter o (now x r) (locks_after_meet o.threads t c args z r p.meets p.locks)) n
            (meet-locks o es p.meets a.meets p.locks a.locks k.formed t i c args r b));
        barrier = barrier-other o es (entry_of t i x r) p.barrier refl refl a.barrier;
        meets = subst (λ z. MeetsAfter o (now x r) (met_with t c args z r p.meets)) n (meets-met o es p.meets a.meets t i c args r b);
      }

  -- ---- any action

  next-after : (x : Action) (r : Reply) → IsWellFormed o es x → reply o es t x ≡ Some r
      → ((l : Loc) (v : Scalar) (s : Bool) → x ≡ act.Write s l v → ⊥) → takes_turn es t x ≡ true
      → IsAfter o (now x r) (next t x r p)
  next-after (act.Read l s) r f e w u = quiet-after (act.Read l s) r refl refl refl refl refl
  next-after (act.Write s l v) r f e w u = absurd (w l v s refl)
  next-after act.Fence r f e w u = quiet-after act.Fence r refl refl refl refl refl
  next-after act.Beat r f e w u = quiet-after act.Beat r refl refl refl refl refl
  next-after (act.Notify m) r f e w u =
      barrier-after (act.Notify m) r _
      (barrier-notify o es t i m r p.barrier b (leb-true (history.notifies t es) (history.waits t es) u) a.barrier) refl refl refl
  next-after (act.Wait m) r f e w u = barrier-after (act.Wait m) r _ (barrier-wait o es t i m r p.barrier b (wait-ready o es t m r e) a.barrier) refl refl refl
  next-after (act.Lock l) r f e w u = lock-after l r f
  next-after (act.Attempt l) r f e w u = attempt-after l r f
  next-after (act.Unlock l) r f e w u = unlock-after l r f
  next-after act.LockMake r f e w u = locks-after act.LockMake r _ (lock-made o es p.locks a.locks t i 0 r k.formed) refl refl refl refl
  next-after (act.LockFree l) r f e w u = free_lock-after l r f
  next-after (act.Alloc n c h s) r f e w u =
      alloc-after n c h s r f (some-same _ _ (sym (answer-same o es p k a t (act.Alloc n c h s) b f) ∙ e))
  next-after (act.Free y) r f e w u = free-after y r (some-same _ _ (sym (answer-same o es p k a t (act.Free y) b f) ∙ e))
  next-after (act.Meet c args) r f e w u =
      meet-after c args r f (some-same _ _ (sym (answer-same o es p k a t (act.Meet c args) b f) ∙ e))
  next-after (act.Print y) r f e w u = quiet-after (act.Print y) r refl refl refl refl refl
  next-after (act.Exit v) r f e w u = quiet-after (act.Exit v) r refl refl refl refl refl

  pub acted-after : (x : Action) (r : Reply) (q : PartsState) → IsWellFormed o es x → takes_turn es t x ≡ true → reply o es t x ≡ Some r
      → Acted t x r p q → IsAfter o (now x r) q
  acted-after (act.Write s l v) r q f u e c =
      subst (IsAfter o (now (act.Write s l v) r)) (sym c.1)
      (heap-after (act.Write s l v) r q.heap (write-push o es t i l v s r p.heap q.heap a.heap c.0) refl refl refl refl)
  acted-after x r q f u e c = subst (IsAfter o (now x r)) (sym c) (next-after x r f e (λ l v s z. absurd cc) u)
