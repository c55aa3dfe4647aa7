-- What is true of the copies and the mail of threads at each moment.
use Rattle.std.specs.Prelude.{ℕ, ◌≡◌, ◌<◌, ◌≤◌, [], length, slice_index_or}
use Rattle.upc_values.specs.Lists.{Each}
use Rattle.replica_space.specs.declared.message.Message.{Message}
use Rattle.replica_space.specs.Spaces.{Space}
use Rattle.replica_space_copies.specs.layer.Copies.{CopiesState, threads_of, space_of}
use Rattle.replica_space_copies.specs.layer.Counts.{waiting_in}

-- No thread has mail from itself, and no clock, of a thread or of a waiting message, is above w.
pub record IsLow (n w : ℕ) (s : Space) : Type 0 where
  pub own : (t : ℕ) → t < n → s.mail t t ≡ []
  pub clock : (t : ℕ) → t < n → s.clock t ≤ w
  pub mail : (to from : ℕ) → to < n → from < n → Each (λ (m : Message). m.stamp.clock ≤ w) (s.mail to from)

-- There is a box for each thread with mail for each; the waiting messages are counted, and there is room in the copies
-- for each of them.
pub record AreCopies (c : CopiesState) : Type 0 where
  pub many : length c.boxes ≡ threads_of c
  pub square : (from : ℕ) → from < threads_of c → length (slice_index_or c.boxes from []) ≡ threads_of c
  pub low : IsLow (threads_of c) c.writes (space_of c)
  pub counted : c.waiting ≡ waiting_in (threads_of c) (space_of c)
  pub room : c.waiting ≤ c.held.room
