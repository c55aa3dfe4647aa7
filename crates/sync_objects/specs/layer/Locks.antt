-- What a lock answers, by what has become of it (UPC 7.2.4).
use Rattle.std.specs.Prelude.{ℕ, ◌<◌, ◌≤◌, ◌-◌, Bool, true, false, cond, List, length, Option, Some, None, is_none}
use Rattle.std.specs.Prelude.{Result, Ok, Err, slice_index_or, slice_set}
use Rattle.block_layout.specs.declared.run_error.TheConstants.{LOCK_FREED}
use Rattle.upc_values.specs.declared.action.Reply.{Reply}
use Rattle.upc_values.specs.declared.action.Reply.TheVariants.{Done, Flag, Refused}
use Rattle.upc_values.specs.declared.journal.Entry.{Entry}
use Rattle.upc_values.specs.Openings.{Opening}
use Rattle.upc_values.specs.History.{lock_reply, unlock_reply, holder, is_given_up, is_freed}
use Rattle.sync_objects.specs.declared.locks.LockState.{LockState}

-- A new lock: nobody holds it, and it is neither given up nor freed.
abbrev pub fresh : LockState
fresh = record { holder = None; given_up = false; freed = false }

-- The lock of this number is made.
abbrev pub IsMade : ℕ → List LockState → Type 0
IsMade lock locks = (0 < lock) × (lock ≤ length locks)

-- The lock of this number.
abbrev pub lock_of : ℕ → List LockState → LockState
lock_of lock locks = slice_index_or locks (lock - 1) fresh

-- The locks, of which that one has become another.
abbrev pub with_lock : ℕ → (LockState → LockState) → List LockState → List LockState
with_lock lock become locks = slice_set locks (lock - 1) (become (lock_of lock locks))

-- The thread holds the lock.
abbrev pub held_by : ℕ → LockState → LockState
held_by thread l = record l { holder = Some thread }

-- Nobody holds the lock.
abbrev pub let_go : LockState → LockState
let_go l = record l { holder = None }

-- The lock is given up.
abbrev pub as_given_up : LockState → LockState
as_given_up l = record l { given_up = true }

-- The lock is freed.
abbrev pub as_freed : LockState → LockState
as_freed l = record l { freed = true }

-- The answer to a thread that takes the lock; none where it has to wait.
abbrev pub lock_answer : ℕ → LockState → Option Reply
lock_answer thread l = cond l.freed (Some (Refused LOCK_FREED)) (lock_reply thread l.holder)

-- The answer to a thread that takes the lock if nobody holds it.
abbrev pub attempt_answer : LockState → Reply
attempt_answer l = cond l.freed (Refused LOCK_FREED) (Flag (is_none l.holder))

-- The answer to a thread that lets the lock go.
abbrev pub unlock_answer : ℕ → LockState → Reply
unlock_answer thread l = cond l.freed (Refused LOCK_FREED) (unlock_reply thread l.holder)

-- The answer to a thread that gives the lock up.
abbrev pub give_up_answer : LockState → Reply
give_up_answer l = cond l.given_up (Refused LOCK_FREED) Done

-- The reply that a result stands for.
abbrev pub told : {T : Type 0} → Result T ℕ → Reply
told (Ok x) = Done
told (Err code) = Refused code

-- The reply that a result with a flag stands for.
abbrev pub told_flag : Result Bool ℕ → Reply
told_flag (Ok flag) = Flag flag
told_flag (Err code) = Refused code

-- What has become of a lock after these entries of a history.
abbrev pub lock_after : Opening → List Entry → ℕ → LockState
lock_after o es lock =
    record { holder = holder lock es; given_up = is_given_up lock es; freed = is_freed o lock es }
