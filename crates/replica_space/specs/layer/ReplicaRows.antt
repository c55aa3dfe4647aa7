-- Two runs with a copy for each thread, by hand: threads that see two writes in different orders, and two writes on one
-- location that end in one order (UPC Appendix B).
use Rattle.std.specs.Prelude.{ℕ, ◌≡◌, pos, ℤ, true, false, List, [], ◌∷◌, map, drop, Some}
use Rattle.block_layout.specs.declared.place.Loc.{Loc}
use Rattle.upc_values.specs.declared.scalar.Scalar.TheVariants.{Int}
use Rattle.upc_values.specs.declared.scalar.Mark.TheVariants.{Start}
use Rattle.upc_values.specs.declared.action.Action.TheVariants as act
use Rattle.upc_values.specs.declared.action.Reply.TheVariants.{Done, Value}
use Rattle.upc_values.specs.declared.order.Op.{Op}
use Rattle.upc_values.specs.Orders.{name_of}
use Rattle.replica_space.specs.declared.event.Event.{Event}
use Rattle.replica_space.specs.Events.{did, delivered}
use Rattle.replica_space.specs.Spaces.{space_after}
use Rattle.replica_space.specs.Runs.{value_in}
use Rattle.replica_space.specs.ReplicaOrders.{replica_order}

-- A location.
abbrev pub x : Loc
x = record { object = 1; thread = 0; offset = 0 }

-- Another location.
abbrev pub y : Loc
y = record { object = 1; thread = 0; offset = 4 }

-- The notify of the first barrier by thread t.
abbrev pub notified : ℕ → Event
notified t = did t 0 (act.Notify Start) Done

-- The wait of the first barrier by thread t.
abbrev pub waited : ℕ → Event
waited t = did t 1 (act.Wait Start) Done

-- A relaxed write by action i of thread t.
abbrev pub wrote : ℕ → ℕ → Loc → ℤ → Event
wrote t i l v = did t i (act.Write false l (Int v)) Done

-- A relaxed read by action i of thread t.
abbrev pub saw : ℕ → ℕ → Loc → ℤ → Event
saw t i l v = did t i (act.Read l false) (Value (Int v))

-- Threads 0 and 1 each write a location; thread 2 hears of the first write alone, and thread 3 of the second alone.
abbrev pub two_readers : List Event
two_readers =
    wrote 0 0 x (pos 1) ∷ wrote 1 0 y (pos 1)
    ∷ delivered 2 2 0 ∷ saw 2 0 x (pos 1) ∷ saw 2 1 y (pos 0)
    ∷ delivered 3 3 1 ∷ saw 3 0 y (pos 1) ∷ saw 3 1 x (pos 0) ∷ []

-- After a barrier both threads write one location, and both messages are delivered.
abbrev pub one_location : List Event
one_location =
    notified 0 ∷ notified 1 ∷ waited 0 ∷ waited 1
    ∷ wrote 0 2 x (pos 1) ∷ wrote 1 2 x (pos 2) ∷ delivered 0 0 1 ∷ delivered 1 1 0 ∷ []

-- The name of the write by action i of thread t.
abbrev pub write : ℕ → ℕ → Op
write t i = record { thread = t; index = i; write = true }

-- The name of the read by action i of thread t.
abbrev pub read : ℕ → ℕ → Op
read t i = record { thread = t; index = i; write = false }

-- Threads 2 and 3 place the two writes the other way round.
pub record ReadersDiffer : Type 0 where
  pub second : map name_of (replica_order 4 two_readers 2) ≡ write 0 0 ∷ read 2 0 ∷ read 2 1 ∷ write 1 0 ∷ []
  pub third : map name_of (replica_order 4 two_readers 3) ≡ write 1 0 ∷ read 3 0 ∷ read 3 1 ∷ write 0 0 ∷ []

-- Both copies have the write with the later stamp, and both lists have it last.
pub record WritesAgree : Type 0 where
  pub copy_of_0 : value_in ((space_after 2 one_location).copy 0 x) ≡ Some (Int (pos 2))
  pub copy_of_1 : value_in ((space_after 2 one_location).copy 1 x) ≡ Some (Int (pos 2))
  pub order_of_0 : drop 4 (map name_of (replica_order 2 one_location 0)) ≡ write 0 2 ∷ write 1 2 ∷ []
  pub order_of_1 : drop 4 (map name_of (replica_order 2 one_location 1)) ≡ write 0 2 ∷ write 1 2 ∷ []
