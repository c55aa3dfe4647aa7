-- The copies and the mail of threads, as they are kept.
use Rattle.std.specs.Prelude.{ℕ, ◌≡◌, ◌≤◌, ◌<◌, ◌^◌, ◌==◌, ◌&&◌, ◌+◌}
use Rattle.std.specs.Prelude.{◌-◌, Bool, List, [], length, Option, slice_index, slice_index_or}
use Rattle.std.specs.Map.{lookup}
use Rattle.block_layout.specs.declared.place.Loc.{Loc}
use Rattle.upc_values.specs.declared.scalar.Scalar.{Scalar}
use Rattle.replica_space.specs.declared.message.Stamp.{Stamp}
use Rattle.replica_space.specs.declared.message.Message.{Message}
use Rattle.replica_space.specs.Spaces.{Space}
use Rattle.replica_space_copies.specs.declared.held.Key.{Key}

-- Both keys are one location in one thread's copy.
abbrev pub same_key : Key → Key → Bool
same_key p q =
    (p.holder == q.holder) && ((p.object == q.object) && ((p.thread == q.thread) && (p.offset == q.offset)))

-- A location in a thread's copy.
abbrev pub key_of : ℕ → Loc → Key
key_of t l = record { holder = t; object = l.object; thread = l.thread; offset = l.offset }

-- The messages in all copies, and for how many more there is room.
pub record HeldState : Type 0 where
  pub entries : List (Key × Message)
  pub room : ℕ

-- The message that a thread's copy has at a location.
abbrev pub held_at : HeldState → ℕ → Loc → Option Message
held_at h t l = lookup (same_key (key_of t l)) h.entries

-- The messages that wait for a thread, of those that one thread has sent.
abbrev pub letters : ℕ → List (List Message) → List Message
letters to box = slice_index_or box to []

-- The clock of each thread, the messages that wait for each thread from each one, by sender, and all copies; how many
-- messages wait, and how many writes there have been.
pub record CopiesState : Type 0 where
  pub clocks : List ℕ
  pub boxes : List (List (List Message))
  pub held : HeldState
  pub waiting : ℕ
  pub writes : ℕ

-- How many threads there are.
abbrev pub threads_of : CopiesState → ℕ
threads_of c = length c.clocks

-- What the threads have.
abbrev pub space_of : CopiesState → Space
space_of c = record {
  clock = λ t. slice_index c.clocks t;
  copy = λ t l. held_at c.held t l;
  mail = λ to from. letters to (slice_index_or c.boxes from []);
}

-- A write by action i with this stamp.
abbrev pub written : ℕ → Loc → Scalar → Stamp → Message
written i l v s = record { index = i; loc = l; value = v; stamp = s }

-- For how many messages there is room in the copies besides those that wait.
abbrev pub spare_of : CopiesState → ℕ
spare_of c = c.held.room - c.waiting

-- There is room for a strict write.
pub record MaySpread (c : CopiesState) : Type 0 where
  pub room : threads_of c ≤ spare_of c
  pub writes : c.writes + 1 < 2 ^ 64

-- From c to d no thread has come or gone or written, and no room is lost.
pub record IsSteady (c d : CopiesState) : Type 0 where
  pub many : threads_of d ≡ threads_of c
  pub writes : d.writes ≡ c.writes
  pub room : spare_of c ≤ spare_of d
