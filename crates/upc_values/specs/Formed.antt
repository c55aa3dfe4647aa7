-- Which actions may be asked for after a history, and which replies fit an action.
use Rattle.std.specs.Prelude.{ℕ, ◌≡◌, ◌*◌, ◌%◌, ◌==◌, nat_lt, nat_le, Bool, true, false, not, ◌&&◌, ◌||◌, List, []}
use Rattle.std.specs.Prelude.{◌∷◌, ◌++◌, Option, Some, None, is_some, slice_get}
use Rattle.block_layout.specs.declared.place.SharedPtr.{SharedPtr}
use Rattle.block_layout.specs.declared.kind.Kind.{Kind}
use Rattle.block_layout.specs.declared.kind.Shape.{Shape}
use Rattle.block_layout.specs.declared.run_error.TheConstants.{BARRIER_MISMATCH, LOCK_AGAIN, LOCK_NOT_HELD}
use Rattle.block_layout.specs.declared.run_error.TheConstants.{LOCK_FREED, BAD_FREE, COLLECTIVE_MISMATCH}
use Rattle.block_layout.specs.declared.run_error.TheConstants.{SHARED_SPACE}
use Rattle.block_layout.specs.Places.{in_range}
use Rattle.block_layout.specs.Pointers.{is_null}
use Rattle.upc_values.specs.declared.scalar.Scalar.{Scalar}
use Rattle.upc_values.specs.declared.scalar.Scalar.TheVariants.{Int, Shared, Lock}
use Rattle.upc_values.specs.declared.action.Action.{Action}
use Rattle.upc_values.specs.declared.action.Action.TheVariants as act
use Rattle.upc_values.specs.declared.action.Reply.{Reply}
use Rattle.upc_values.specs.declared.action.Reply.TheVariants.{Done, Value, Flag, Refused}
use Rattle.upc_values.specs.declared.journal.Entry.{Entry}
use Rattle.upc_values.specs.Shapes.{fits_cell}
use Rattle.upc_values.specs.Calls.{Call, Allocates, Makes_lock, Frees, Frees_lock, Copies, Permutes, Reduces}
use Rattle.upc_values.specs.Calls.{Reduces_prefixes, Other, call_of}
use Rattle.upc_values.specs.Openings.{Opening, cell_of, is_named}
use Rattle.upc_values.specs.History.{objects, locks}

-- A pointer is null or names an object of the history.
abbrev pub knows : Opening → List Entry → SharedPtr → Bool
knows o es p = is_named o.threads (objects o es) p

-- A value refers to nothing but what the history knows: a pointer is null or names an object, and a lock is null or
-- made.
abbrev pub is_known : Opening → List Entry → Scalar → Bool
is_known o es (Int v) = true
is_known o es (Shared p) = knows o es p
is_known o es (Lock l) = nat_le l (locks es)

-- The lock is one that the history has made.
abbrev pub is_lock : List Entry → ℕ → Bool
is_lock es l = nat_lt 0 l && nat_le l (locks es)

-- So many bytes are whole elements of a shape of the program.
abbrev pub is_whole : Option Shape → ℕ → Bool
is_whole (Some s) nbytes = nbytes % s.size == 0
is_whole None nbytes = false

-- The home of a new object is a thread of the run, if it has one.
abbrev pub is_home : ℕ → Option ℕ → Bool
is_home threads (Some t) = nat_lt t threads
is_home threads None = true

-- An allocation of at least one byte, in whole elements (UPC 7.2.2).
abbrev pub may_alloc : Opening → ℕ → ℕ → ℕ → Bool
may_alloc o nblocks nbytes shape = not (nblocks * nbytes == 0) && is_whole (slice_get o.shapes shape) nbytes

-- A collective call may be asked for: what its arguments name has been made, and an allocation is of a shape of the
-- program and of whole elements (UPC 7.2.2, 7.2.4, 7.3).
abbrev pub may_call : Opening → List Entry → Call → Bool
may_call o es (Allocates n b s) = is_some (slice_get o.shapes s) && ((n * b == 0) || may_alloc o n b s)
may_call o es Makes_lock = true
may_call o es (Frees p) = knows o es p
may_call o es (Frees_lock l) = nat_le l (locks es)
may_call o es (Copies w dst src n f) = knows o es dst && knows o es src
may_call o es (Permutes dst src perm n f) = knows o es dst && (knows o es src && knows o es perm)
may_call o es (Reduces dst src op n b k f) = knows o es dst && knows o es src
may_call o es (Reduces_prefixes dst src op n b k f) = knows o es dst && knows o es src
may_call o es Other = false

-- An action may be asked for: its location is a cell, its value fits that cell, what it names has been made, and its
-- numbers are in their ranges.
abbrev pub may_ask : Opening → List Entry → Action → Bool
may_ask o es (act.Read l s) = is_some (cell_of o (objects o es) l)
may_ask o es (act.Write s l v) = fits_cell v (cell_of o (objects o es) l) && is_known o es v
may_ask o es act.Fence = true
may_ask o es act.Beat = true
may_ask o es (act.Notify m) = true
may_ask o es (act.Wait m) = true
may_ask o es (act.Lock l) = is_lock es l
may_ask o es (act.Attempt l) = is_lock es l
may_ask o es (act.Unlock l) = is_lock es l
may_ask o es act.LockMake = true
may_ask o es (act.LockFree l) = is_lock es l
may_ask o es (act.Alloc n b h s) = may_alloc o n b s && is_home o.threads h
may_ask o es (act.Free p) = knows o es p
may_ask o es (act.Meet c args) = may_call o es (call_of c args)
may_ask o es (act.Print x) = true
may_ask o es (act.Exit v) = true

-- An action is well formed after a history where it may be asked for.
abbrev pub IsWellFormed : Opening → List Entry → Action → Type 0
IsWellFormed o es a = may_ask o es a ≡ true

-- Each of these entries, which stand after others, was well formed after the entries before it.
abbrev pub AreWellFormedFrom : Opening → List Entry → List Entry → Type 0
AreWellFormedFrom o before [] = Unit {0}
AreWellFormedFrom o before (e ∷ es) =
    IsWellFormed o before e.action × AreWellFormedFrom o (before ++ e ∷ []) es

-- Each entry of a history was well formed after the entries before it.
abbrev pub AreWellFormed : Opening → List Entry → Type 0
AreWellFormed o history = AreWellFormedFrom o [] history

-- A pointer that a reply may give: null, or with a shape of the program, a thread and a home of the run, an offset in
-- range and sizes within the limits.
abbrev pub is_pointer : ℕ → List Shape → SharedPtr → Bool
is_pointer threads shapes p =
    is_null p
    || (not (p.object.number == 0)
    && (is_some (slice_get shapes p.object.shape)
    && (nat_lt p.thread threads
    && (nat_lt p.object.home threads
    && (in_range p.offset && (nat_le p.object.total 16777216 && nat_le p.object.block 16777216))))))

-- A value that a read of this kind may give.
abbrev pub is_read : ℕ → List Shape → Option Kind → Scalar → Bool
is_read threads shapes k (Shared p) = fits_cell (Shared p) k && is_pointer threads shapes p
is_read threads shapes k v = fits_cell v k

-- A pointer that an allocation may give: one that a reply may give, with phase 0 (UPC 7.2.2).
abbrev pub is_start : ℕ → List Shape → SharedPtr → Bool
is_start threads shapes p = is_pointer threads shapes p && (p.phase == 0)

-- The reply fits the collective call: of upc_all_alloc it is a pointer, of upc_all_lock_alloc a lock, of any other
-- Done; any may be refused.
abbrev pub fits_call : ℕ → List Shape → Call → Reply → Bool
fits_call threads shapes (Allocates n b s) (Value (Shared p)) = is_start threads shapes p
fits_call threads shapes (Allocates n b s) Done = false
fits_call threads shapes Makes_lock (Value (Lock l)) = nat_lt 0 l
fits_call threads shapes Makes_lock Done = false
fits_call threads shapes c Done = true
fits_call threads shapes c (Refused code) =
    (code == LOCK_FREED) || ((code == BAD_FREE) || ((code == COLLECTIVE_MISMATCH) || (code == SHARED_SPACE)))
fits_call threads shapes c r = false

-- The reply fits the action, where a read is of a cell of this kind.
abbrev pub fits : ℕ → List Shape → Option Kind → Action → Reply → Bool
fits threads shapes k (act.Read l s) (Value v) = is_read threads shapes k v
fits threads shapes k (act.Write s l v) Done = true
fits threads shapes k act.Fence Done = true
fits threads shapes k act.Beat Done = true
fits threads shapes k (act.Notify m) Done = true
fits threads shapes k (act.Wait m) Done = true
fits threads shapes k (act.Wait m) (Refused code) = code == BARRIER_MISMATCH
fits threads shapes k (act.Lock l) Done = true
fits threads shapes k (act.Lock l) (Refused code) = (code == LOCK_AGAIN) || (code == LOCK_FREED)
fits threads shapes k (act.Attempt l) (Flag b) = true
fits threads shapes k (act.Attempt l) (Refused code) = code == LOCK_FREED
fits threads shapes k (act.Unlock l) Done = true
fits threads shapes k (act.Unlock l) (Refused code) = (code == LOCK_NOT_HELD) || (code == LOCK_FREED)
fits threads shapes k act.LockMake (Value (Lock l)) = nat_lt 0 l
fits threads shapes k (act.LockFree l) Done = true
fits threads shapes k (act.LockFree l) (Refused code) = code == LOCK_FREED
fits threads shapes k (act.Alloc n b h s) (Value (Shared p)) = is_start threads shapes p
fits threads shapes k (act.Alloc n b h s) (Refused code) = code == SHARED_SPACE
fits threads shapes k (act.Free p) Done = true
fits threads shapes k (act.Free p) (Refused code) = code == BAD_FREE
fits threads shapes k (act.Meet c args) r = fits_call threads shapes (call_of c args) r
fits threads shapes k (act.Print x) Done = true
fits threads shapes k (act.Exit v) Done = true
fits threads shapes k a r = false

-- The reply fits the action after a history, where a read is of the cell that it reads then.
abbrev pub fits_after : Opening → List Entry → Action → Reply → Bool
fits_after o es a r = fits o.threads o.shapes (elim a [ act.Read l s ↦ cell_of o (objects o es) l | _ ↦ None ]) a r
