-- What the barrier answers, by what each thread has done at it (UPC 6.6.1).
use Rattle.std.specs.Prelude.{ℕ, ◌+◌, ◌==◌, nat_lt, nat_le, Bool, ◌&&◌, cond, List, Option, Some, None}
use Rattle.std.specs.Prelude.{slice_index_or, slice_set}
use Rattle.std.specs.List.{list_all}
use Rattle.block_layout.specs.declared.run_error.TheConstants.{BARRIER_MISMATCH}
use Rattle.upc_values.specs.declared.action.Reply.{Reply}
use Rattle.upc_values.specs.declared.action.Reply.TheVariants.{Done, Refused}
use Rattle.upc_values.specs.declared.scalar.Mark.{Mark}
use Rattle.upc_values.specs.declared.scalar.Mark.TheVariants.{Absent}
use Rattle.upc_values.specs.History.{agrees_with}
use Rattle.sync_objects.specs.declared.attendance.Attendance.{Attendance}

-- A thread that has neither notified nor waited.
abbrev pub fresh : Attendance
fresh = record { notifies = 0; waits = 0; last = Absent; older = Absent }

-- What the thread of this number has done.
abbrev pub attendance_of : ℕ → List Attendance → Attendance
attendance_of thread attendances = slice_index_or attendances thread fresh

-- The value of a thread's notify of the round of this number, from 0, if it is one of its last two.
abbrev pub mark_in : ℕ → Attendance → Option Mark
mark_in round a =
    cond (round + 1 == a.notifies) (Some a.last) (cond (round + 2 == a.notifies) (Some a.older) None)

-- All threads have notified the round of this number, from 0.
abbrev pub all_notified : ℕ → List Attendance → Bool
all_notified round attendances = list_all (λ a. nat_lt round a.notifies) attendances

-- A value agrees with those of all threads' notifies of the round.
abbrev pub all_agree : ℕ → Mark → List Attendance → Bool
all_agree round m attendances = list_all (λ a. agrees_with m (mark_in round a)) attendances

-- A thread may notify: it has waited as often as it has notified, which is fewer than 2^64 - 1 times.
abbrev pub is_turn : Attendance → Bool
is_turn a = nat_le a.notifies a.waits && nat_lt a.notifies 18446744073709551615

-- Whether the thread may notify its next round: it has waited in the one before.
abbrev pub may_notify : ℕ → List Attendance → Bool
may_notify thread attendances = is_turn (attendance_of thread attendances)

-- Whether the thread may pass its next round: all threads have notified it.
abbrev pub may_pass : ℕ → List Attendance → Bool
may_pass thread attendances = all_notified (attendance_of thread attendances).waits attendances

-- The answer to a thread that waits with a value, in its next round; none where not all threads have notified that.
abbrev pub wait_answer : ℕ → Mark → List Attendance → Option Reply
wait_answer thread m attendances =
    let round = (attendance_of thread attendances).waits in
    cond (all_notified round attendances)
    (Some (cond (all_agree round m attendances) Done (Refused BARRIER_MISMATCH))) None

-- All threads as before, but for this one.
abbrev pub with_attendance : ℕ → (Attendance → Attendance) → List Attendance → List Attendance
with_attendance thread become attendances =
    slice_set attendances thread (become (attendance_of thread attendances))

-- The thread has notified once more, with a value.
abbrev pub notified : Mark → Attendance → Attendance
notified m a = record { notifies = a.notifies + 1; waits = a.waits; last = m; older = a.last }

-- The thread has waited once more.
abbrev pub waited : Attendance → Attendance
waited a = record a { waits = a.waits + 1 }
