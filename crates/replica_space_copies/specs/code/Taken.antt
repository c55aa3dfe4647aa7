-- How much of a thread's sent mail the other threads have taken.
use Rattle.std.specs.Prelude.{ℕ, ◌<◌, ◌≤◌, List, length, slice_index}
use Rattle.replica_space.specs.declared.message.Message.{Message}

-- No thread has taken more messages than there are.
abbrev pub AreTaken : List Message → List ℕ → Type 0
AreTaken messages taken = (to : ℕ) → to < length taken → slice_index taken to ≤ length messages
