-- When the parts of a memory stand as a history has left them.
use Rattle.std.specs.Prelude.{List}
use Rattle.upc_values.specs.declared.journal.Entry.{Entry}
use Rattle.upc_values.specs.Openings.{Opening}
use Rattle.sync_objects.specs.declared.locks.LockState.{LockState}
use Rattle.sync_objects.specs.declared.attendance.Attendance.{Attendance}
use Rattle.shared_heap.specs.layer.Heap.{HeapState}
use Rattle.memory_history.specs.code.HeapAfter.{HeapAfter}
use Rattle.memory_history.specs.code.LocksAfter.{LocksAfter}
use Rattle.memory_history.specs.code.BarrierAfter.{BarrierAfter}
use Rattle.memory_history.specs.code.MeetsAfter.{MeetsState, MeetsAfter}

-- The parts of a memory: its heap, its locks, what each thread has done at the barrier, and its collective calls.
pub record PartsState : Type 0 where
  pub heap : HeapState
  pub locks : List LockState
  pub barrier : List Attendance
  pub meets : MeetsState

-- Each part stands as the history has left it.
pub record IsAfter (o : Opening) (es : List Entry) (p : PartsState) : Type 0 where
  pub heap : HeapAfter o es p.heap
  pub locks : LocksAfter o es p.locks
  pub barrier : BarrierAfter o es p.barrier
  pub meets : MeetsAfter o es p.meets
