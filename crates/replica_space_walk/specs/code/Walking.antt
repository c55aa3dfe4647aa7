-- The walk over the events of a run with a copy of the shared memory for each thread.
use Rattle.std.specs.Prelude.{ℕ, ◌≡◌, ◌≤◌, ◌<◌, true, false, List, [], ◌∷◌, map, length, slice_index_or}
use Rattle.block_layout.specs.declared.place.Loc.{Loc}
use Rattle.upc_values.specs.declared.action.Action.{Action}
use Rattle.upc_values.specs.declared.action.Action.TheVariants as act
use Rattle.upc_values.specs.Lists.{Has}
use Rattle.replica_space.specs.declared.message.Message.{Message}
use Rattle.replica_space.specs.declared.event.Event.{Event}
use Rattle.replica_space.specs.declared.event.Deed.{Deed}
use Rattle.replica_space.specs.declared.event.Deed.TheVariants.{Did, Delivered}
use Rattle.replica_space.specs.Spaces.{Space, next_stamp, sent, spread, done}
use Rattle.replica_space.specs.ReplicaOrders.{Placed, Listed, listed, is_write_of}
use Rattle.replica_space_rows.specs.declared.member.Member.{Member}
use Rattle.replica_space_rows.specs.layer.Rows.{member_in, with_member, with_members}
use Rattle.replica_space_copies.specs.layer.Copies.{CopiesState, threads_of, space_of, written}
use Rattle.replica_space_copies.specs.layer.Same.{IsSame}
use Rattle.replica_space_walk.specs.declared.walk.Walk.{Walk}

-- What a write by action i of thread t does, where the clocks have met before a strict one.
abbrev pub wrote : ℕ → ℕ → Action → Space → Space
wrote t i (act.Write false l v) s = sent (written i l v (next_stamp t s)) s
wrote t i (act.Write true l v) s = spread (written i l v (next_stamp t s)) s
wrote t i a s = s

-- What the threads have and their lists after one more event of n threads.
abbrev pub after : ℕ → Event → Listed → Listed
after n e x = record { space = done n e.by e.deed x.space; lists = listed n e.by e.deed x.space x.lists }

-- The list of thread t, of those of all threads.
abbrev pub row_of : ℕ → List (List Member) → List Member
row_of t rows = slice_index_or rows t []

-- There is a list for each thread.
abbrev pub IsEven : Walk → Type 0
IsEven w = length w.rows.items ≡ threads_of w.copies

-- Copies of n threads and lists by names are what the threads have and their lists.
pub record Shows (n : ℕ) (x : Listed) (c : CopiesState) (rows : List (List Member)) : Type 0 where
  pub many : threads_of c ≡ n
  pub even : length rows ≡ n
  pub space : IsSame n (space_of c) x.space
  pub lists : (t : ℕ) → t < n → row_of t rows ≡ map member_in (x.lists t)

-- The walk of n threads has what they have and their lists.
abbrev pub IsAt : ℕ → Listed → Walk → Type 0
IsAt n x w = Shows n x w.copies w.rows.items

-- No write in the list of one of the first n threads has a clock above the thread's own.
abbrev pub IsLow : ℕ → Listed → Type 0
IsLow n x =
    (t : ℕ) (l : Loc) (p : Placed) → t < n → Has (x.lists t) p → is_write_of l p ≡ true
    → p.stamp.clock ≤ x.space.clock t

-- The threads that a deed of thread t names are among the first n.
abbrev pub IsDoneWithin : ℕ → ℕ → Deed → Type 0
IsDoneWithin n t (Did i a r) = t < n
IsDoneWithin n t (Delivered to from) = (to < n) × (from < n)

-- The threads that an event names are among the first n.
abbrev pub IsWithin : ℕ → Event → Type 0
IsWithin n e = IsDoneWithin n e.by e.deed

-- A list by names with all mail from the first n threads, by sender, oldest first.
abbrev pub with_mail_of : ℕ → (ℕ → List Message) → List Member → List Member
with_mail_of ℕ.zero mail ys = ys
with_mail_of (ℕ.suc n) mail ys = with_members (mail n) (with_mail_of n mail ys)

-- A list by names with the write of the first of these messages, if there is one.
abbrev pub with_oldest : List Message → List Member → List Member
with_oldest [] ys = ys
with_oldest (m ∷ ms) ys = with_member m ys
