-- The barrier that a history leaves (UPC 6.6.1).
use Rattle.std.specs.Prelude.{ℕ, ◌≡◌, ◌<◌, ◌≤◌, ◌+◌, List, length}
use Rattle.std.specs.List.{fold}
use Rattle.upc_values.specs.declared.scalar.Mark.{Mark}
use Rattle.upc_values.specs.declared.scalar.Mark.TheVariants.{Absent}
use Rattle.upc_values.specs.declared.journal.Entry.{Entry}
use Rattle.upc_values.specs.Openings.{Opening}
use Rattle.upc_values.specs.History.{marks, notifies, waits}
use Rattle.sync_objects.specs.declared.attendance.Attendance.{Attendance}
use Rattle.sync_objects.specs.layer.Barrier.{attendance_of}

-- The last two marks, older one first, after one more.
abbrev pub next_two : Mark × Mark → Mark → Mark × Mark
next_two two m = (two.1, m)

-- The last two of some marks, older one first; Absent stands for each that there is not.
abbrev pub last_two : List Mark → Mark × Mark
last_two ms = fold next_two (Absent, Absent) ms

-- What a thread that has notified with these values and waited so often has done at the barrier.
abbrev pub attended : List Mark → ℕ → Attendance
attended ms waits =
    record { notifies = length ms; waits = waits; last = (last_two ms).1; older = (last_two ms).0 }

-- What a thread has done at the barrier in a history.
abbrev pub attendance_after : ℕ → List Entry → Attendance
attendance_after thread es = attended (marks thread es) (waits thread es)

-- There is an attendance for each thread, which is what the thread has done. A thread has notified at most once more
-- than it has waited, and each has notified at least as often as any has waited.
pub record BarrierAfter (o : Opening) (es : List Entry) (attendances : List Attendance) : Type 0 where
  pub count : length attendances ≡ o.threads
  pub each : (u : ℕ) → u < o.threads → attendance_of u attendances ≡ attendance_after u es
  pub turns : (u : ℕ) → u < o.threads → notifies u es ≤ waits u es + 1
  pub together : (u v : ℕ) → u < o.threads → v < o.threads → waits u es ≤ notifies v es
