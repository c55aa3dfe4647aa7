use Rattle.std.proofs.Common.{◌≡◌, ℕ, ◌<◌, ◌≤◌, ◌+◌}
use Rattle.block_layout.specs.declared.place.Loc.{Loc}
use Rattle.replica_space.specs.Spaces.{with_message}
use Rattle.replica_space_copies.specs.layer.Copies.{held_at}
use Rattle.replica_space_copies.proofs.held.Held.put_in_each.Given as goal

abbrev pub invariant-loop-holder : goal.invariant-loop-holder
invariant-loop-holder l = record {
  done : (t : ℕ) (x : Loc) → t < l.holder → held_at l.self t x ≡ with_message l.message x (held_at l.initial.self t x);
  left : (t : ℕ) (x : Loc) → l.holder ≤ t → held_at l.self t x ≡ held_at l.initial.self t x;
  room : l.initial.self.room ≤ l.self.room + l.holder;
}
