use Rattle.thread_values.proofs.library.library_step.Goals as goal
use Rattle.thread_values.proofs.library.library_step.Goals.{in-GlobalAlloc, in-AllAlloc+in_ok-step-in-AllAlloc, in-Alloc, in-Free, in-AllFree+in_ok-step-in-AllFree, in-GlobalLockAlloc, in-AllLockAlloc, in-Lock, in-LockAttempt, in-Unlock, in-LockFree, in-AllLockFree+in_ok-step-in-AllLockFree}

pub returns-clause-does : goal.returns-clause-does
returns-clause-does c threads private =
    elim c.match-call.branch [
      | in-GlobalAlloc w ↦ rw (w.in-GlobalAlloc.is, w.step-is) (w.global_alloc-step.ensures threads c.args.me private)
      | in-AllAlloc+in_ok-step-in-AllAlloc w ↦ rw (w.in-AllAlloc.is, w.step-is) (w.in_ok-step-in-AllAlloc.ensures threads c.args.me private)
      | in-Alloc w ↦ rw (w.in-Alloc.is, w.step-is) (w.local_alloc-step.ensures threads private)
      | in-Free w ↦ rw (w.in-Free.is, w.step-is) (w.free-step.ensures threads c.args.shapes.now c.args.me private c.args.shape)
      | in-AllFree+in_ok-step-in-AllFree w ↦ rw (w.in-AllFree.is, w.step-is) (w.in_ok-step-in-AllFree.ensures threads c.args.shapes.now c.args.me private c.args.shape)
      | in-GlobalLockAlloc w ↦ rw (w.in-GlobalLockAlloc.is, w.step-is) (w.global_lock_alloc-step.ensures threads c.args.shapes.now c.args.me private c.args.shape)
      | in-AllLockAlloc w ↦ rw (w.in-AllLockAlloc.is, w.step-is) (w.all_lock_alloc-step.ensures threads c.args.shapes.now c.args.me private c.args.shape)
      | in-Lock w ↦ rw (w.in-Lock.is, w.step-is) (w.lock-step.ensures threads c.args.shapes.now c.args.me private c.args.shape)
      | in-LockAttempt w ↦ rw (w.in-LockAttempt.is, w.step-is) (w.lock_attempt-step.ensures threads c.args.shapes.now c.args.me private c.args.shape)
      | in-Unlock w ↦ rw (w.in-Unlock.is, w.step-is) (w.unlock-step.ensures threads c.args.shapes.now c.args.me private c.args.shape)
      | in-LockFree w ↦ rw (w.in-LockFree.is, w.step-is) (w.lock_free-step.ensures threads c.args.shapes.now c.args.me private c.args.shape)
      | in-AllLockFree+in_ok-step-in-AllLockFree w ↦ rw (w.in-AllLockFree.is, w.step-is) (w.in_ok-step-in-AllLockFree.ensures threads c.args.shapes.now c.args.me private c.args.shape)
    ]
