-- What each thread has in a run with a copy of the shared memory for each thread: its clock, its copy and its mail
-- (UPC 5.1.2.3, Appendix B).
use Rattle.std.specs.Prelude.{ℕ, ◌+◌, ◌==◌, nat_lt, Bool, true, false, not, ◌&&◌, ◌||◌, cond, List, [], ◌∷◌, ◌++◌}
use Rattle.std.specs.Prelude.{Option, Some, None}
use Rattle.block_layout.specs.declared.place.Loc.{Loc}
use Rattle.upc_values.specs.declared.action.Action.{Action}
use Rattle.upc_values.specs.declared.action.Action.TheVariants as act
use Rattle.upc_values.specs.Scalars.{same_loc}
use Rattle.replica_space.specs.declared.message.Stamp.{Stamp}
use Rattle.replica_space.specs.declared.message.Message.{Message}
use Rattle.replica_space.specs.declared.event.Event.{Event}
use Rattle.replica_space.specs.declared.event.Deed.{Deed}
use Rattle.replica_space.specs.declared.event.Deed.TheVariants.{Did, Delivered}

-- The first stamp is later than the second: its clock is greater, or the clocks are equal and its thread is greater.
abbrev pub is_later : Stamp → Stamp → Bool
is_later s t = nat_lt t.clock s.clock || ((s.clock == t.clock) && nat_lt t.thread s.thread)

-- What the threads have at one moment: each its clock, in its copy the message that it has at each location, if any,
-- and as its mail from each thread the messages that wait, oldest first.
pub record Space : Type 0 where
  pub clock : (thread : ℕ) → ℕ
  pub copy : (thread : ℕ) → Loc → Option Message
  pub mail : (to from : ℕ) → List Message

-- At the beginning each clock is 0, each copy empty, and no message waits.
abbrev pub begun : Space
begun = record { clock = λ t. 0; copy = λ t l. None; mail = λ to from. [] }

-- The greater of two numbers.
abbrev pub greater : ℕ → ℕ → ℕ
greater a b = cond (nat_lt a b) b a

-- The greatest of a function's first n values; it is 0 where n is 0.
abbrev pub greatest : ℕ → (ℕ → ℕ) → ℕ
greatest ℕ.zero f = 0
greatest (ℕ.suc n) f = greater (greatest n f) (f n)

-- What a copy has at l with this message in it: the message at its own location, elsewhere what it had.
abbrev pub with_message : Message → Loc → Option Message → Option Message
with_message m l c = cond (same_loc m.loc l) (Some m) c

-- There is a message here, and its stamp is later than m's.
abbrev pub is_behind : Message → Option Message → Bool
is_behind m (Some k) = is_later k.stamp m.stamp
is_behind m None = false

-- What a copy has at l once this message has come to it: the message at its own location, unless the copy had a later
-- one there; elsewhere what it had.
abbrev pub with_mail : Message → Loc → Option Message → Option Message
with_mail m l c = cond (same_loc m.loc l && not (is_behind m c)) (Some m) c

-- The synchronising actions: a strict read or write, a fence, a notify, a wait, and what takes a lock, tries to, or
-- lets it go (UPC 5.1.2.3, 6.6.1, 7.2.4).
abbrev pub is_synchronising : Action → Bool
is_synchronising (act.Read l s) = s
is_synchronising (act.Write s l v) = s
is_synchronising act.Fence = true
is_synchronising (act.Notify m) = true
is_synchronising (act.Wait m) = true
is_synchronising (act.Lock l) = true
is_synchronising (act.Attempt l) = true
is_synchronising (act.Unlock l) = true
is_synchronising a = false

-- Of n threads, every clock becomes the greatest clock.
abbrev pub met : ℕ → Space → Space
met n s = record { clock = λ t. greatest n s.clock; copy = s.copy; mail = s.mail }

-- The stamp of thread t's next write: its clock, raised by 1, and t.
abbrev pub next_stamp : ℕ → Space → Stamp
next_stamp t s = record { clock = s.clock t + 1; thread = t }

-- The messages that wait for thread `to` from thread `from` once this one is sent: it is their last, where `from` has
-- sent it and `to` is another thread.
abbrev pub with_sent : Message → (to from : ℕ) → List Message → List Message
with_sent m to from ms = cond ((from == m.stamp.thread) && not (to == from)) (ms ++ m ∷ []) ms

-- A relaxed write: its thread's clock is that of its stamp; it goes into the thread's own copy, and to the end of the
-- mail to each other thread.
abbrev pub sent : Message → Space → Space
sent m s = record {
  clock = λ u. cond (u == m.stamp.thread) m.stamp.clock (s.clock u);
  copy = λ u l. cond (u == m.stamp.thread) (with_message m l (s.copy u l)) (s.copy u l);
  mail = λ to from. with_sent m to from (s.mail to from);
}

-- A strict write: every clock rises by 1, and it goes into every copy.
abbrev pub spread : Message → Space → Space
spread m s = record {
  clock = λ u. s.clock u + 1;
  copy = λ u l. with_message m l (s.copy u l);
  mail = s.mail;
}

-- The first of the messages, which waited for thread `to` from thread `from`, leaves its mail: the clock of `to` is no
-- less than the message's, and the message comes to its copy.
abbrev pub received : (to from : ℕ) → List Message → Space → Space
received to from [] s = s
received to from (m ∷ ms) s = record {
  clock = λ u. cond (u == to) (greater (s.clock u) m.stamp.clock) (s.clock u);
  copy = λ u l. cond (u == to) (with_mail m l (s.copy u l)) (s.copy u l);
  mail = λ u v. cond ((u == to) && (v == from)) ms (s.mail u v);
}

-- After action i of thread t, of n threads: a relaxed write is sent; at a synchronising action the clocks meet, and
-- then a strict write is spread.
abbrev pub acted : ℕ → ℕ → ℕ → Action → Space → Space
acted n t i (act.Write false l v) s =
    sent (record { index = i; loc = l; value = v; stamp = next_stamp t s }) s
acted n t i (act.Write true l v) s =
    spread (record { index = i; loc = l; value = v; stamp = next_stamp t (met n s) }) (met n s)
acted n t i a s = cond (is_synchronising a) (met n s) s

-- After a deed of thread t, of n threads.
abbrev pub done : ℕ → ℕ → Deed → Space → Space
done n t (Did i a r) s = acted n t i a s
done n t (Delivered to from) s = received to from (s.mail to from) s

-- After these events of n threads, where s was before them.
abbrev pub space_from : ℕ → Space → List Event → Space
space_from n s [] = s
space_from n s (e ∷ es) = space_from n (done n e.by e.deed s) es

-- What the threads, n of them, have after all events of a run.
abbrev pub space_after : ℕ → List Event → Space
space_after n es = space_from n begun es
