-- What the parts of a memory answer to an action, and what they become.
use Rattle.std.specs.Prelude.{ℕ, ◌≡◌, ◌<◌, ◌≤◌, ◌+◌, ◌*◌, ◌==◌, nat_lt, nat_le, Bool, true, false, ◌&&◌, ◌||◌, cond}
use Rattle.std.specs.Prelude.{List, [], ◌∷◌, ◌++◌, length, replicate, Option, Some, None, is_some, slice_get}
use Rattle.block_layout.specs.declared.place.SharedPtr.{SharedPtr}
use Rattle.block_layout.specs.Pointers.{null, is_null}
use Rattle.upc_values.specs.declared.scalar.Scalar.{Scalar}
use Rattle.upc_values.specs.declared.scalar.Scalar.TheVariants.{Int, Shared, Lock}
use Rattle.upc_values.specs.declared.action.Action.{Action}
use Rattle.upc_values.specs.declared.action.Action.TheVariants as act
use Rattle.upc_values.specs.declared.action.Reply.{Reply}
use Rattle.upc_values.specs.declared.action.Reply.TheVariants.{Done, Value, Flag}
use Rattle.upc_values.specs.Shapes.{fits_cell}
use Rattle.upc_values.specs.Calls.{Call, call_of}
use Rattle.upc_values.specs.Openings.{Opening, is_named}
use Rattle.upc_values.specs.History.{value_reply}
use Rattle.upc_values.specs.Formed.{may_alloc, is_home}
use Rattle.sync_objects.specs.declared.locks.LockState.{LockState}
use Rattle.sync_objects.specs.layer.Locks as lock
use Rattle.sync_objects.specs.layer.Locks.{IsMade, lock_of, with_lock}
use Rattle.sync_objects.specs.layer.Barrier as barrier
use Rattle.sync_objects.specs.declared.attendance.Attendance.{Attendance}
use Rattle.sync_objects.specs.layer.Barrier.{attendance_of, with_attendance}
use Rattle.shared_heap.specs.layer.Heap as heap
use Rattle.shared_heap.specs.layer.Heap.{HeapState, all_objects, cell_at, content, IsSaved}
use Rattle.memory_history.specs.declared.calls.Asked.{Asked}
use Rattle.memory_history.specs.declared.calls.Asked.TheVariants as asks
use Rattle.memory_history.specs.code.Calls.{asked_of}
use Rattle.memory_history.specs.code.LocksAfter.{given_up_by}
use Rattle.memory_history.specs.code.MeetsAfter.{MeetsState, times, is_leading, leader_at, called, joined_answer}
use Rattle.memory_history.specs.code.MeetsAfter.{met_with}
use Rattle.memory_history.specs.code.After.{PartsState}

-- ---- what may be asked for

-- A pointer is null or names an object of the heap.
abbrev pub knows : PartsState → SharedPtr → Bool
knows p x = is_named p.heap.opening.threads (all_objects p.heap) x

-- A value refers to nothing but objects and locks that are there.
abbrev pub is_known : PartsState → Scalar → Bool
is_known p (Int v) = true
is_known p (Shared x) = knows p x
is_known p (Lock l) = nat_le l (length p.locks)

-- A lock that is made.
abbrev pub is_lock : PartsState → ℕ → Bool
is_lock p l = nat_lt 0 l && nat_le l (length p.locks)

-- A collective call may be asked for.
abbrev pub may_call : PartsState → Asked → Bool
may_call p (asks.Allocates n b s) =
    is_some (slice_get p.heap.opening.shapes s) && ((n * b == 0) || may_alloc p.heap.opening n b s)
may_call p asks.MakesLock = true
may_call p (asks.Frees x) = knows p x
may_call p (asks.FreesLock l) = nat_le l (length p.locks)
may_call p (asks.Uses x y) = knows p x && knows p y
may_call p (asks.UsesThree x y z) = knows p x && (knows p y && knows p z)
may_call p asks.Nothing = false

-- An action may be asked for.
abbrev pub may_ask : PartsState → Action → Bool
may_ask p (act.Read l s) = is_some (cell_at p.heap l)
may_ask p (act.Write s l v) = fits_cell v (cell_at p.heap l) && is_known p v
may_ask p (act.Lock l) = is_lock p l
may_ask p (act.Attempt l) = is_lock p l
may_ask p (act.Unlock l) = is_lock p l
may_ask p (act.LockFree l) = is_lock p l
may_ask p (act.Alloc n b h s) = may_alloc p.heap.opening n b s && is_home p.heap.opening.threads h
may_ask p (act.Free x) = knows p x
may_ask p (act.Meet c args) = may_call p (asked_of (call_of c args))
may_ask p a = true

-- A lock that a call with this reply gives up is made.
abbrev pub HasLock : Call → Reply → PartsState → Type 0
HasLock c r p = (l : ℕ) → given_up_by c r ≡ Some l → IsMade l p.locks

-- A thread may do the action in its turn: it notifies only where it has waited since it last did.
abbrev pub has_turn : ℕ → Action → PartsState → Bool
has_turn t (act.Notify m) p = barrier.may_notify t p.barrier
has_turn t a p = true

-- A thread may act: it may ask for the action, and has its turn; it is one of those that attend at the barrier and
-- meet, and it has met in no more calls than there are; in the next one at most 32 threads have met, and a lock that it
-- gives up is made.
pub record MayAct (t : ℕ) (a : Action) (p : PartsState) : Type 0 where
  pub asked : may_ask p a ≡ true
  pub turn : has_turn t a p ≡ true
  pub attends : t < length p.barrier
  pub counted : t < length p.meets.counts
  pub led : times t p.meets ≤ length p.meets.leaders
  pub few : (leader_at (times t p.meets) p.meets).done ≤ 32
  pub lent : HasLock (called (leader_at (times t p.meets) p.meets)) (leader_at (times t p.meets) p.meets).reply p

-- ---- answers

-- The answer to the leader of a collective call.
abbrev pub led_answer : PartsState → Asked → Reply
led_answer p (asks.Allocates n b s) =
    cond (n * b == 0) (Value (Shared null)) (heap.grow_answer p.heap n b None s)
led_answer p asks.MakesLock = Value (Lock (length p.locks + 1))
led_answer p (asks.Frees x) = cond (is_null x) Done (heap.release_answer x p.heap)
led_answer p (asks.FreesLock l) = cond (l == 0) Done (lock.give_up_answer (lock_of l p.locks))
led_answer p a = Done

-- How often a thread has notified.
abbrev pub notifies : ℕ → PartsState → ℕ
notifies t p = (attendance_of t p.barrier).notifies

-- The answer to a collective call.
abbrev pub meet_answer : ℕ → ℕ → List Scalar → PartsState → Reply
meet_answer t c args p =
    cond (is_leading t p.meets) (led_answer p (asked_of (call_of c args)))
    (joined_answer (notifies t p) c args (leader_at (times t p.meets) p.meets))

-- The answer to an action of a thread, none where it has to wait.
abbrev pub answer : ℕ → Action → PartsState → Option Reply
answer t (act.Read l s) p = value_reply (content p.heap l)
answer t (act.Wait m) p = barrier.wait_answer t m p.barrier
answer t (act.Lock l) p = lock.lock_answer t (lock_of l p.locks)
answer t (act.Attempt l) p = Some (lock.attempt_answer (lock_of l p.locks))
answer t (act.Unlock l) p = Some (lock.unlock_answer t (lock_of l p.locks))
answer t act.LockMake p = Some (Value (Lock (length p.locks + 1)))
answer t (act.LockFree l) p = Some (lock.give_up_answer (lock_of l p.locks))
answer t (act.Alloc n b h s) p = Some (heap.grow_answer p.heap n b h s)
answer t (act.Free x) p = Some (heap.release_answer x p.heap)
answer t (act.Meet c args) p = Some (meet_answer t c args p)
answer t a p = Some Done

-- ---- what the parts become

-- The parts with another heap.
abbrev pub with_heap : HeapState → PartsState → PartsState
with_heap h p = record { heap = h; locks = p.locks; barrier = p.barrier; meets = p.meets }

-- The parts with other locks.
abbrev pub with_locks : List LockState → PartsState → PartsState
with_locks ls p = record { heap = p.heap; locks = ls; barrier = p.barrier; meets = p.meets }

-- The parts with another barrier.
abbrev pub with_barrier : List Attendance → PartsState → PartsState
with_barrier attendances p = record { heap = p.heap; locks = p.locks; barrier = attendances; meets = p.meets }

-- The parts with other collective calls.
abbrev pub with_meets : MeetsState → PartsState → PartsState
with_meets m p = record { heap = p.heap; locks = p.locks; barrier = p.barrier; meets = m }

-- The parts after a leading call with this reply, but for the call itself.
abbrev pub led : Asked → Reply → PartsState → PartsState
led (asks.Allocates n b s) (Value (Shared x)) p =
    cond (n * b == 0) p (with_heap (heap.with_object x.object p.heap) p)
led asks.MakesLock r p = with_locks (p.locks ++ lock.fresh ∷ []) p
led (asks.Frees x) Done p =
    cond (is_null x) p (with_heap (heap.without_object x.object.number p.heap) p)
led (asks.FreesLock l) Done p = cond (l == 0) p (with_locks (with_lock l lock.as_given_up p.locks) p)
led a r p = p

-- The parts after a call in which all threads have met, with this reply: a lock that it gives up is freed.
abbrev pub met_by_all : Asked → Reply → PartsState → PartsState
met_by_all (asks.FreesLock l) Done p = cond (l == 0) p (with_locks (with_lock l lock.as_freed p.locks) p)
met_by_all a r p = p

-- The parts once all threads may have met in the j-th call, from 0: if all have, with reply Done, it ends.
abbrev pub ended : ℕ → PartsState → PartsState
ended j p =
    let x = leader_at j p.meets in
    cond (x.done == p.heap.opening.threads) (met_by_all (asked_of (called x)) x.reply p) p

-- The parts after a collective call with this reply.
abbrev pub met : ℕ → ℕ → List Scalar → Reply → PartsState → PartsState
met t c args r p =
    let begun = cond (is_leading t p.meets) (led (asked_of (call_of c args)) r p) p in
    ended (times t p.meets) (with_meets (met_with t c args (notifies t p) r p.meets) begun)

-- The parts after an action with this reply, other than a write.
abbrev pub next : ℕ → Action → Reply → PartsState → PartsState
next t (act.Notify m) r p = with_barrier (with_attendance t (barrier.notified m) p.barrier) p
next t (act.Wait m) r p = with_barrier (with_attendance t barrier.waited p.barrier) p
next t (act.Lock l) Done p = with_locks (with_lock l (lock.held_by t) p.locks) p
next t (act.Attempt l) (Flag true) p = with_locks (with_lock l (lock.held_by t) p.locks) p
next t (act.Unlock l) Done p = with_locks (with_lock l lock.let_go p.locks) p
next t act.LockMake r p = with_locks (p.locks ++ lock.fresh ∷ []) p
next t (act.LockFree l) Done p = with_locks (with_lock l lock.as_freed (with_lock l lock.as_given_up p.locks)) p
next t (act.Alloc n b h s) (Value (Shared x)) p = with_heap (heap.with_object x.object p.heap) p
next t (act.Free x) Done p = with_heap (heap.without_object x.object.number p.heap) p
next t (act.Meet c args) r p = met t c args r p
next t a r p = p

-- The parts that have just begun.
abbrev pub begun : Opening → PartsState
begun o =
    record {
      heap = heap.begun o;
      locks = [];
      barrier = replicate o.threads barrier.fresh;
      meets = record { counts = replicate o.threads 0; leaders = [] };
    }

-- The second parts are the first after an action with this reply.
abbrev pub Acted : ℕ → Action → Reply → PartsState → PartsState → Type 0
Acted t (act.Write s l v) r p q = IsSaved p.heap l v q.heap × (q ≡ with_heap q.heap p)
Acted t a r p q = q ≡ next t a r p
