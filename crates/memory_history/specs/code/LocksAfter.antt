-- The locks that a history leaves (UPC 7.2.4).
use Rattle.std.specs.Prelude.{ℕ, ◌≡◌, ◌==◌, Bool, true, false, cond, List, [], ◌∷◌, ◌++◌, length, Option, Some, None}
use Rattle.upc_values.specs.declared.scalar.Scalar.{Scalar}
use Rattle.upc_values.specs.declared.action.Action.{Action}
use Rattle.upc_values.specs.declared.action.Action.TheVariants as act
use Rattle.upc_values.specs.declared.action.Reply.{Reply}
use Rattle.upc_values.specs.declared.action.Reply.TheVariants.{Done, Flag}
use Rattle.upc_values.specs.declared.journal.Entry.{Entry}
use Rattle.upc_values.specs.Calls.{Call, Makes_lock, Frees_lock, call_of}
use Rattle.upc_values.specs.Openings.{Opening}
use Rattle.upc_values.specs.History.{locks}
use Rattle.sync_objects.specs.declared.locks.LockState.{LockState}
use Rattle.sync_objects.specs.layer.Locks.{fresh, IsMade, lock_of, with_lock, as_given_up, as_freed, lock_after}
use Rattle.memory_history.specs.code.MeetsAfter.{MeetsState, times, is_leading, leader_at, called, met_with}

-- There are as many locks as the history has made, and each is what has become of it.
pub record LocksAfter (o : Opening) (es : List Entry) (ls : List LockState) : Type 0 where
  pub count : length ls ≡ locks es
  pub each : (l : ℕ) → IsMade l ls → lock_of l ls ≡ lock_after o es l

-- The lock that a leading call with this reply gives up; null gives up none.
abbrev pub given_up_by : Call → Reply → Option ℕ
given_up_by (Frees_lock l) Done = cond (l == 0) None (Some l)
given_up_by c r = None

-- The locks, of which that one, if any, has become another.
abbrev pub with_some : Option ℕ → (LockState → LockState) → List LockState → List LockState
with_some None become ls = ls
with_some (Some l) become ls = with_lock l become ls

-- The locks after a leading call with this reply.
abbrev pub locks_led : Call → Reply → List LockState → List LockState
locks_led Makes_lock r ls = ls ++ fresh ∷ []
locks_led c r ls = with_some (given_up_by c r) as_given_up ls

-- The locks once all threads have met in a call with this reply; before that they are as they were.
abbrev pub locks_met : Bool → Call → Reply → List LockState → List LockState
locks_met all c r ls = cond all (with_some (given_up_by c r) as_freed ls) ls

-- The entry may change a lock or make one: an action on a lock with such a reply, or a collective call.
abbrev pub concerns_locks : Action → Reply → Bool
concerns_locks (act.Lock l) Done = true
concerns_locks (act.Attempt l) (Flag true) = true
concerns_locks (act.Unlock l) Done = true
concerns_locks (act.LockFree l) Done = true
concerns_locks act.LockMake r = true
concerns_locks (act.Meet c args) r = true
concerns_locks a r = false

-- The locks after a collective call of the thread, after so many notifies and with this reply.
abbrev pub locks_after_meet : ℕ → ℕ → ℕ → List Scalar → ℕ → Reply → MeetsState → List LockState → List LockState
locks_after_meet threads thread call args notifies reply m ls =
    let leader = leader_at (times thread m) (met_with thread call args notifies reply m) in
    locks_met (leader.done == threads) (called leader) leader.reply
    (cond (is_leading thread m) (locks_led (call_of call args) reply ls) ls)
