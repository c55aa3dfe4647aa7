-- One history of all threads' entries: what it has made, and the one lawful reply of each action after it.
use Rattle.std.specs.Prelude.{ℕ, ◌≡◌, ◌<◌, ◌+◌, ◌*◌, ◌==◌, nat_lt, pos, Bool, true, false, not, ◌&&◌, ◌||◌, cond}
use Rattle.std.specs.Prelude.{List, [], ◌∷◌, ◌++◌, length, Option, Some, None, is_some, is_none, slice_get}
use Rattle.std.specs.List.{last_or, filter, filter_map, list_any, count_by}
use Rattle.std.specs.Ordering.{int_eq}
use Rattle.block_layout.specs.declared.place.Loc.{Loc}
use Rattle.block_layout.specs.declared.place.ObjectRef.{ObjectRef}
use Rattle.block_layout.specs.declared.place.SharedPtr.{SharedPtr}
use Rattle.block_layout.specs.declared.run_error.TheConstants.{BARRIER_MISMATCH, LOCK_AGAIN, LOCK_NOT_HELD}
use Rattle.block_layout.specs.declared.run_error.TheConstants.{LOCK_FREED, BAD_FREE, COLLECTIVE_MISMATCH}
use Rattle.block_layout.specs.declared.run_error.TheConstants.{SHARED_SPACE}
use Rattle.block_layout.specs.Pointers.{null, is_null, same_target}
use Rattle.upc_values.specs.declared.scalar.Scalar.{Scalar}
use Rattle.upc_values.specs.declared.scalar.Scalar.TheVariants.{Shared, Lock}
use Rattle.upc_values.specs.declared.scalar.Mark.{Mark}
use Rattle.upc_values.specs.declared.scalar.Mark.TheVariants.{Absent, Start, Finish, Given}
use Rattle.upc_values.specs.declared.action.Action.{Action}
use Rattle.upc_values.specs.declared.action.Action.TheVariants as act
use Rattle.upc_values.specs.declared.action.Reply.{Reply}
use Rattle.upc_values.specs.declared.action.Reply.TheVariants.{Done, Value, Flag, Refused}
use Rattle.upc_values.specs.declared.journal.Entry.{Entry}
use Rattle.upc_values.specs.Lists.{Each}
use Rattle.upc_values.specs.Scalars.{same_scalar}
use Rattle.upc_values.specs.Calls.{Call, Allocates, Makes_lock, Frees, Frees_lock, call_of}
use Rattle.upc_values.specs.Openings.{Opening, bytes_of, initial_of}
use Rattle.upc_values.specs.Drain.{entries_of, or_else, last_written}

-- Of these entries, which stand after others, those that pass a test, each seen with the entries before it.
abbrev pub picked_from : (List Entry → Entry → Bool) → List Entry → List Entry → List Entry
picked_from test before [] = []
picked_from test before (e ∷ es) =
    cond (test before e) (e ∷ picked_from test (before ++ e ∷ []) es) (picked_from test (before ++ e ∷ []) es)

-- The entries of a history that pass a test, each seen with the entries before it.
abbrev pub picked : (List Entry → Entry → Bool) → List Entry → List Entry
picked test es = picked_from test [] es

-- Whether some entry of a history passes a test, seen with the entries before it.
abbrev pub is_any : (List Entry → Entry → Bool) → List Entry → Bool
is_any test es = nat_lt 0 (length (picked test es))

-- Whether each thread of the first n passes a test.
abbrev pub each_thread : ℕ → (ℕ → Bool) → Bool
each_thread ℕ.zero test = true
each_thread (ℕ.suc n) test = test n && each_thread n test

-- The collective call that an action asks for; what is no Meet asks for none.
abbrev pub asked : Action → Call
asked (act.Meet c args) = call_of c args
asked a = Call.Other

-- The action is a collective call.
abbrev pub is_meet : Action → Bool
is_meet (act.Meet c args) = true
is_meet a = false

-- The collective calls of a thread, in order.
abbrev pub meets : ℕ → List Entry → List Entry
meets t es = filter (λ e. is_meet e.action) (entries_of t es)

-- The entry is its thread's j-th collective call, from 0, after the entries before it.
abbrev pub is_meet_of : ℕ → List Entry → Entry → Bool
is_meet_of j before e = is_meet e.action && (length (meets e.thread before) == j)

-- An entry with the entries before it.
pub record Lead : Type 0 where
  pub before : List Entry
  pub entry : Entry

-- The earliest of these entries, which stand after others, that is some thread's j-th collective call.
abbrev pub leader_from : ℕ → List Entry → List Entry → Option Lead
leader_from j before [] = None
leader_from j before (e ∷ es) =
    cond (is_meet_of j before e) (Some (record { before = before; entry = e })) (leader_from j (before ++ e ∷ []) es)

-- The leader of the j-th collective calls: the earliest entry of a history that is some thread's j-th one, from 0
-- (UPC 7.2.2, 7.2.4).
abbrev pub leader : ℕ → List Entry → Option Lead
leader j es = leader_from j [] es

-- What a leading collective call asks for; an entry that leads no call asks for nothing.
abbrev pub led : List Entry → Entry → Call
led before e = cond (is_none (leader (length (meets e.thread before)) before)) (asked e.action) Call.Other

-- The pointer that a reply gives, if it is not null.
abbrev pub pointer_of : Reply → Option SharedPtr
pointer_of (Value (Shared p)) = cond (is_null p) None (Some p)
pointer_of r = None

-- The action makes an object, unless its reply is null: an Alloc, or a leading upc_all_alloc (UPC 7.2.2).
abbrev pub makes : Action → Call → Bool
makes (act.Alloc n b h s) c = true
makes a (Allocates n b s) = true
makes a c = false

-- The object that an entry's reply names, if it names one.
abbrev pub object_of : Entry → Option ObjectRef
object_of e = elim (pointer_of e.reply) [ Some p ↦ Some p.object | None ↦ None ]

-- The objects after these entries: the declared ones, then those made.
abbrev pub objects : Opening → List Entry → List ObjectRef
objects o es = o.declared ++ filter_map object_of (picked (λ before e. makes e.action (led before e)) es)

-- The pointer to a new object of so many blocks of so many bytes, which is numbered next and lies after all others;
-- with a home it is indefinite (UPC 7.2.2).
abbrev pub made : Opening → List Entry → ℕ → ℕ → Option ℕ → ℕ → SharedPtr
made o es nblocks nbytes home shape =
    let objects = objects o es in
    let place : ℕ = elim home [ Some t ↦ t | None ↦ 0 ] in
    record {
      object =
          record {
            number = length objects + 1;
            total = nblocks * nbytes;
            block = cond (is_some home) 0 nbytes;
            home = place;
            shape = shape;
            base = bytes_of objects;
          };
      thread = place;
      phase = 0;
      offset = pos 0;
    }

-- The reply of an allocation: the new object, or a refusal where all objects ever made would have more than 16,777,216
-- bytes (UPC 7.2.2).
abbrev pub alloc_reply : Opening → List Entry → ℕ → ℕ → Option ℕ → ℕ → Reply
alloc_reply o es nblocks nbytes home shape =
    cond (nat_lt 16777216 (bytes_of (objects o es) + nblocks * nbytes)) (Refused SHARED_SPACE)
    (Value (Shared (made o es nblocks nbytes home shape)))

-- The action with its reply releases the object with this number: a upc_free, or a leading upc_all_free, that is Done
-- (UPC 7.2.2).
abbrev pub releases : ℕ → Action → Call → Reply → Bool
releases n (act.Free p) c Done = p.object.number == n
releases n a (Frees p) Done = not (is_null p) && (p.object.number == n)
releases n a c r = false

-- Some entry of the history has released the object with this number.
abbrev pub is_released : ℕ → List Entry → Bool
is_released n es = is_any (λ before e. releases n e.action (led before e) e.reply) es

-- The pointers that were given by allocations.
abbrev pub allocated : List Entry → List SharedPtr
allocated es = filter_map (λ e. pointer_of e.reply) (filter (λ e. makes e.action (asked e.action)) es)

-- The reply of a free: Done where an allocation gave the pointer and nothing has released the object, else a refusal
-- (UPC 7.2.2).
abbrev pub free_reply : List Entry → SharedPtr → Reply
free_reply es p =
    cond (list_any (λ q. same_target p q && not (is_released q.object.number es)) (allocated es)) Done
    (Refused BAD_FREE)

-- The action makes the next lock, from 1 on: a upc_global_lock_alloc, or a leading upc_all_lock_alloc (UPC 7.2.4).
abbrev pub makes_lock : Action → Call → Bool
makes_lock act.LockMake c = true
makes_lock a Makes_lock = true
makes_lock a c = false

-- How many locks a history has made.
abbrev pub locks : List Entry → ℕ
locks es = length (picked (λ before e. makes_lock e.action (led before e)) es)

-- The action with its reply gives the lock up: a upc_lock_free, or a leading upc_all_lock_free, that is Done
-- (UPC 7.2.4).
abbrev pub gives_up : ℕ → Action → Call → Reply → Bool
gives_up l (act.LockFree k) c Done = k == l
gives_up l a (Frees_lock k) Done = k == l
gives_up l a c r = false

-- Some entry of the history has given the lock up.
abbrev pub is_given_up : ℕ → List Entry → Bool
is_given_up l es = is_any (λ before e. gives_up l e.action (led before e) e.reply) es

-- The entry is there, and was answered Done.
abbrev pub is_done : Option Entry → Bool
is_done (Some e) = elim e.reply [ Done ↦ true | _ ↦ false ]
is_done None = false

-- Every thread has met in the j-th call, with reply Done.
abbrev pub all_met : Opening → ℕ → List Entry → Bool
all_met o j es = each_thread o.threads (λ u. is_done (slice_get (meets u es) j))

-- The lock is freed: a upc_lock_free has given it up, or a upc_all_lock_free in which all threads have met (UPC 7.2.4).
abbrev pub is_freed : Opening → ℕ → List Entry → Bool
is_freed o l es =
    is_any
    (λ before e.
    gives_up l e.action (led before e) e.reply
    && (not (is_meet e.action) || all_met o (length (meets e.thread before)) es))
    es

-- The action with its reply takes the lock or lets it go (UPC 7.2.4).
abbrev pub turns : ℕ → Action → Reply → Bool
turns l (act.Lock k) Done = k == l
turns l (act.Attempt k) (Flag true) = k == l
turns l (act.Unlock k) Done = k == l
turns l a r = false

-- The action lets a lock go (UPC 7.2.4).
abbrev pub is_unlock : Action → Bool
is_unlock (act.Unlock l) = true
is_unlock a = false

-- The holder of a lock by the last entry that takes it or lets it go: the entry's thread, if it takes the lock.
abbrev pub left_with : Option Entry → Option ℕ
left_with (Some e) = cond (is_unlock e.action) None (Some e.thread)
left_with None = None

-- The holder of a lock: the thread of the last entry that takes it or lets it go, if that one takes it.
abbrev pub holder : ℕ → List Entry → Option ℕ
holder l es = left_with (last_or None (filter (λ e. turns l e.action e.reply) es))

-- The reply of a lock to thread t, by its holder: a free one is taken, to the holder it is refused, and for another
-- thread there is none yet (UPC 7.2.4).
abbrev pub lock_reply : ℕ → Option ℕ → Option Reply
lock_reply t None = Some Done
lock_reply t (Some u) = cond (t == u) (Some (Refused LOCK_AGAIN)) None

-- The reply of an unlock to thread t: Done to the lock's holder alone, else a refusal (UPC 7.2.4).
abbrev pub unlock_reply : ℕ → Option ℕ → Reply
unlock_reply t None = Refused LOCK_NOT_HELD
unlock_reply t (Some u) = cond (t == u) Done (Refused LOCK_NOT_HELD)

-- The mark of an entry, if it is a notify (UPC 6.6.1).
abbrev pub mark_of : Entry → Option Mark
mark_of e = elim e.action [ act.Notify m ↦ Some m | _ ↦ None ]

-- The marks of a thread's notifies, in order.
abbrev pub marks : ℕ → List Entry → List Mark
marks t es = filter_map mark_of (entries_of t es)

-- The action is a notify (UPC 6.6.1).
abbrev pub is_notify : Action → Bool
is_notify (act.Notify m) = true
is_notify a = false

-- The action is a wait (UPC 6.6.1).
abbrev pub is_wait : Action → Bool
is_wait (act.Wait m) = true
is_wait a = false

-- How many notifies of a thread a history has.
abbrev pub notifies : ℕ → List Entry → ℕ
notifies t es = count_by (λ e. (e.thread == t) && is_notify e.action) es

-- How many waits of a thread a history has.
abbrev pub waits : ℕ → List Entry → ℕ
waits t es = count_by (λ e. (e.thread == t) && is_wait e.action) es

-- Each of the first n threads has more than p notifies.
abbrev pub all_notified : ℕ → ℕ → List Entry → Bool
all_notified n p es = each_thread n (λ u. nat_lt p (notifies u es))

-- Two marks agree unless both are present and differ (UPC 6.6.1).
abbrev pub agree : Mark → Mark → Bool
agree Absent k = true
agree m Absent = true
agree Start Start = true
agree Finish Finish = true
agree (Given a) (Given b) = int_eq a b
agree m k = false

-- A mark agrees with another one, if there is another (UPC 6.6.1).
abbrev pub agrees_with : Mark → Option Mark → Bool
agrees_with m (Some k) = agree m k
agrees_with m None = true

-- The reply of a thread's p-th wait, from 0: there is none before the p-th notify of all threads, whose marks must
-- agree with its own (UPC 6.6.1).
abbrev pub wait_reply : Opening → List Entry → ℕ → Mark → Option Reply
wait_reply o es p m =
    cond (all_notified o.threads p es)
    (Some (cond (each_thread o.threads (λ u. agrees_with m (slice_get (marks u es) p))) Done
    (Refused BARRIER_MISMATCH)))
    None

-- The reply of a leading collective call, by what it asks for (UPC 7.2.2, 7.2.4).
abbrev pub led_reply : Opening → List Entry → Call → Reply
led_reply o es (Allocates n b s) = cond (n * b == 0) (Value (Shared null)) (alloc_reply o es n b None s)
led_reply o es Makes_lock = Value (Lock (locks es + 1))
led_reply o es (Frees p) = cond (is_null p) Done (free_reply es p)
led_reply o es (Frees_lock l) = cond ((l == 0) || not (is_given_up l es)) Done (Refused LOCK_FREED)
led_reply o es c = Done

-- Two lists of arguments are equal, one by one.
abbrev pub same_list : List Scalar → List Scalar → Bool
same_list [] [] = true
same_list (v ∷ vs) (w ∷ ws) = same_scalar v w && same_list vs ws
same_list vs ws = false

-- The action is the collective call with this number and equal arguments.
abbrev pub same_call : ℕ → List Scalar → Action → Bool
same_call c args (act.Meet d brgs) = (c == d) && same_list args brgs
same_call c args a = false

-- The reply of a collective call by its leader: where it leads itself, by what it asks for; else the leader's reply,
-- whose call, arguments and number of notifies before must be its own (UPC 7.2.2, 7.2.4, 7.3).
abbrev pub meet_reply : Opening → List Entry → ℕ → ℕ → List Scalar → Option Lead → Reply
meet_reply o es t c args None = led_reply o es (call_of c args)
meet_reply o es t c args (Some w) =
    cond (same_call c args w.entry.action && (notifies t es == notifies w.entry.thread w.before)) w.entry.reply
    (Refused COLLECTIVE_MISMATCH)

-- The reply that gives a value, if there is one.
abbrev pub value_reply : Option Scalar → Option Reply
value_reply (Some v) = Some (Value v)
value_reply None = None

-- What a location holds after these entries: the last value written to it, else what its cell began with.
abbrev pub held : Opening → List Entry → Loc → Option Scalar
held o es l = or_else (last_written l es) (initial_of o (objects o es) l)

-- The one lawful reply of the action by thread t after the entries before it, or none.
abbrev pub reply : Opening → List Entry → ℕ → Action → Option Reply
-- a read gives what its location holds
reply o before t (act.Read l s) = value_reply (held o before l)
reply o before t (act.Write s l v) = Some Done
reply o before t act.Fence = Some Done
reply o before t act.Beat = Some Done
reply o before t (act.Notify m) = Some Done
reply o before t (act.Wait m) = wait_reply o before (waits t before) m
-- a lock that another thread holds is waited for; one that is freed is refused (UPC 7.2.4)
reply o before t (act.Lock l) = cond (is_freed o l before) (Some (Refused LOCK_FREED)) (lock_reply t (holder l before))
reply o before t (act.Attempt l) =
    Some (cond (is_freed o l before) (Refused LOCK_FREED) (Flag (is_none (holder l before))))
reply o before t (act.Unlock l) =
    Some (cond (is_freed o l before) (Refused LOCK_FREED) (unlock_reply t (holder l before)))
reply o before t act.LockMake = Some (Value (Lock (locks before + 1)))
reply o before t (act.LockFree l) = Some (cond (is_given_up l before) (Refused LOCK_FREED) Done)
reply o before t (act.Alloc n b h s) = Some (alloc_reply o before n b h s)
reply o before t (act.Free p) = Some (free_reply before p)
reply o before t (act.Meet c args) =
    Some (meet_reply o before t c args (leader (length (meets t before)) before))
reply o before t (act.Print x) = Some Done
reply o before t (act.Exit v) = Some Done

-- Each of these entries, which stand after others, has the one lawful reply after the entries before it.
abbrev pub IsLegalFrom : Opening → List Entry → List Entry → Type 0
IsLegalFrom o before [] = Unit {0}
IsLegalFrom o before (e ∷ es) =
    (reply o before e.thread e.action ≡ Some e.reply) × IsLegalFrom o (before ++ e ∷ []) es

-- A history is legal: each entry has the one lawful reply after the entries before it.
abbrev pub IsLegal : Opening → List Entry → Type 0
IsLegal o history = IsLegalFrom o [] history

-- Each entry's thread is one of the first n.
abbrev pub EachBelow : ℕ → List Entry → Type 0
EachBelow n history = Each (λ e. e.thread < n) history
