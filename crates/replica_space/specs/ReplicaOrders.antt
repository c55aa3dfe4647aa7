-- The orders of a run with a copy of the shared memory for each thread: a strict list, and a list of each thread in
-- which writes on one location stand by their stamps (UPC Appendix B).
use Rattle.std.specs.Prelude.{ℕ, ◌==◌, Bool, true, false, ◌&&◌, cond, List, [], ◌∷◌, ◌++◌, map, filter}
use Rattle.std.specs.List.{flat_map}
use Rattle.block_layout.specs.declared.place.Loc.{Loc}
use Rattle.upc_values.specs.declared.action.Action.{Action}
use Rattle.upc_values.specs.Operations.{Operation, Cell, accesses, accesses_of, write_at}
use Rattle.upc_values.specs.Consistent.{same_place}
use Rattle.replica_space.specs.declared.message.Stamp.{Stamp}
use Rattle.replica_space.specs.declared.message.Message.{Message}
use Rattle.replica_space.specs.declared.event.Event.{Event}
use Rattle.replica_space.specs.declared.event.Deed.{Deed}
use Rattle.replica_space.specs.declared.event.Deed.TheVariants.{Did, Delivered}
use Rattle.replica_space.specs.Events.{history_in}
use Rattle.replica_space.specs.Spaces.{Space, begun, is_later, is_synchronising, met, next_stamp, done}

-- An operation in a list, with the stamp that the writes of its action have.
pub record Placed : Type 0 where
  pub operation : Operation
  pub stamp : Stamp

-- An operation by an action with this stamp.
abbrev pub placed : Stamp → Operation → Placed
placed s o = record { operation = o; stamp = s }

-- The operations of some members.
abbrev pub operations : List Placed → List Operation
operations xs = map (λ x. x.operation) xs

-- The write of a message.
abbrev pub write_of : Message → Placed
write_of m = placed m.stamp (write_at m.stamp.thread m.index (Cell m.loc) false m.value)

-- The member is a write of the location.
abbrev pub is_write_of : Loc → Placed → Bool
is_write_of l x = x.operation.write && same_place x.operation.place (Cell l)

-- The member is a write of the message's location with a later stamp.
abbrev pub is_after : Message → Placed → Bool
is_after m x = is_write_of m.loc x && is_later x.stamp m.stamp

-- The list with the write of a message directly before the first write on its location with a later stamp, or as its
-- last member where there is none.
abbrev pub with_write : Message → List Placed → List Placed
with_write m [] = write_of m ∷ []
with_write m (x ∷ xs) =
    cond (is_after m x) (write_of m ∷ x ∷ xs) (x ∷ with_write m xs)

-- The list with the writes of these messages, one after another.
abbrev pub with_writes : List Message → List Placed → List Placed
with_writes [] xs = xs
with_writes (m ∷ ms) xs = with_writes ms (with_write m xs)

-- The list with the write of the first of these messages, if there is one.
abbrev pub with_first : List Message → List Placed → List Placed
with_first [] xs = xs
with_first (m ∷ ms) xs = with_write m xs

-- The lists after operations of thread t: at the end of its own list alone, or, where they synchronise, of every list.
abbrev pub with_operations : Bool → ℕ → List Placed → (ℕ → List Placed) → ℕ → List Placed
with_operations true t new lists u = lists u ++ new
with_operations false t new lists u = cond (u == t) (lists u ++ new) (lists u)

-- The stamp that an action of thread t has if it writes: where it synchronises, after the clocks have met.
abbrev pub stamp_of : ℕ → ℕ → Action → Space → Stamp
stamp_of n t a s = next_stamp t (cond (is_synchronising a) (met n s) s)

-- The lists of the threads, n of them, after a deed of thread t, where s was before it: an action's operations go to
-- the end, and a delivered write to its place in the list of the receiver.
abbrev pub listed : ℕ → ℕ → Deed → Space → (ℕ → List Placed) → ℕ → List Placed
listed n t (Did i a r) s lists u =
    with_operations (is_synchronising a) t (map (placed (stamp_of n t a s)) (accesses_of t i a r)) lists u
listed n t (Delivered to from) s lists u = cond (u == to) (with_first (s.mail to from) (lists u)) (lists u)

-- What the threads have, and the list of each.
pub record Listed : Type 0 where
  pub space : Space
  pub lists : ℕ → List Placed

-- What the threads have and their lists after these events of n threads, where they had x before.
abbrev pub listed_from : ℕ → Listed → List Event → Listed
listed_from n x [] = x
listed_from n x (e ∷ es) =
    listed_from n
    (record { space = done n e.by e.deed x.space; lists = listed n e.by e.deed x.space x.lists }) es

-- What the threads have and their lists after all events.
abbrev pub listed_after : ℕ → List Event → Listed
listed_after n es = listed_from n (record { space = begun; lists = λ t. [] }) es

-- The list with all mail from the first n threads, by sender, oldest first.
abbrev pub with_all_mail : ℕ → (ℕ → List Message) → List Placed → List Placed
with_all_mail ℕ.zero mail xs = xs
with_all_mail (ℕ.suc n) mail xs = with_writes (mail n) (with_all_mail n mail xs)

-- The order of thread t: its list after all events, with the mail that still waits for it.
abbrev pub replica_order : ℕ → List Event → ℕ → List Operation
replica_order n es t =
    let x = listed_after n es in
    operations (with_all_mail n (x.space.mail t) (x.lists t))

-- All operations of a run, in the order of its events.
abbrev pub operations_in : List Event → List Operation
operations_in es = flat_map accesses (history_in es)

-- The strict list: the strict operations in the order of the events.
abbrev pub replica_strict_list : List Event → List Operation
replica_strict_list es = filter (λ o. o.strict) (operations_in es)
