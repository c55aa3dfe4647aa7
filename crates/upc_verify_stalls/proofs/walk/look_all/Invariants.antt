use Rattle.std.proofs.Common.{◌≡◌, ℕ, ◌<◌, ◌≤◌, [], length, get_or}
use Rattle.upc_verify_stalls.specs.declared.walk.Watch.{Watch}
use Rattle.upc_verify_stalls.specs.code.Watches.{IsDue, IsLooked}
use Rattle.upc_verify_stalls.proofs.walk.look_all.Given as goal

-- the walk has looked at the threads so far, and is to look at the others
abbrev pub invariant-loop-thread : goal.invariant-loop-thread
invariant-loop-thread l = record {
  many : length l.watches ≡ length l.points;
  looked : (t : ℕ) (d : Watch) → t < l.thread → IsLooked l.world.0 t (get_or l.points t []) l.world.1 (get_or l.watches t d);
  due : (t : ℕ) (d : Watch) → l.thread ≤ t → t < length l.points
      → IsDue l.world.0 t (get_or l.points t []) l.world.1 (get_or l.watches t d);
}
