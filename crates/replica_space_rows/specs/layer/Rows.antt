-- The list of a thread by names, and the places of writes in it (UPC Appendix B).
use Rattle.std.specs.Prelude.{ℕ, ◌≡◌, Bool, false, ◌&&◌, cond, List, [], ◌∷◌, ◌++◌, map, Option, Some, None}
use Rattle.upc_values.specs.Lists.{Each}
use Rattle.upc_values.specs.Scalars.{same_loc}
use Rattle.upc_values.specs.Operations.{Place, Cell, Sync, Access, Writes, operations_by}
use Rattle.upc_values.specs.Orders.{name_of}
use Rattle.replica_space.specs.declared.message.Stamp.{Stamp}
use Rattle.replica_space.specs.declared.message.Message.{Message}
use Rattle.replica_space.specs.Spaces.{is_later}
use Rattle.replica_space.specs.ReplicaOrders.{Placed, placed, write_of}
use Rattle.replica_space_rows.specs.declared.member.Member.{Member}
use Rattle.replica_space_rows.specs.declared.member.Written.{Written}

-- A write of a place with this stamp, if it is a location.
abbrev pub written_at : Place → Stamp → Option Written
written_at (Cell l) s = Some (record { loc = l; stamp = s })
written_at Sync s = None

-- An operation of a thread's list, by its name.
abbrev pub member_in : Placed → Member
member_in x = record {
  name = name_of x.operation;
  written = cond x.operation.write (written_at x.operation.place x.stamp) None;
}

-- An operation by action i of thread t that writes no location.
abbrev pub other : ℕ → ℕ → Bool → Member
other t i w = record { name = record { thread = t; index = i; write = w }; written = None }

-- The write of a message.
abbrev pub write_in : Message → Member
write_in m = member_in (write_of m)

-- This is a later write of the message's location.
abbrev pub is_later_there : Message → Option Written → Bool
is_later_there m (Some w) = same_loc w.loc m.loc && is_later w.stamp m.stamp
is_later_there m None = false

-- The member is a later write of the message's location.
abbrev pub is_after : Message → Member → Bool
is_after m y = is_later_there m y.written

-- The list with the write of a message directly before the first later write of its location, or as its last member
-- where there is none.
abbrev pub with_member : Message → List Member → List Member
with_member m [] = write_in m ∷ []
with_member m (y ∷ ys) = cond (is_after m y) (write_in m ∷ y ∷ ys) (y ∷ with_member m ys)

-- The list with the writes of these messages, one after another.
abbrev pub with_members : List Message → List Member → List Member
with_members [] ys = ys
with_members (m ∷ ms) ys = with_members ms (with_member m ys)

-- This is a write with a later stamp.
abbrev pub is_newer : Stamp → Option Written → Bool
is_newer s (Some w) = is_later w.stamp s
is_newer s None = false

-- No write in the list has a later stamp.
abbrev pub IsLatest : Stamp → List Member → Type 0
IsLatest s ys = Each (λ y. is_newer s y.written ≡ false) ys

-- The list with the operations of an access by action i of the stamp's thread: a write of a location in its place by
-- its stamp, all others at the end.
abbrev pub with_access : Stamp → ℕ → Access → List Member → List Member
with_access s i (Writes l k v) ys = with_member (record { index = i; loc = l; value = v; stamp = s }) ys
with_access s i x ys = ys ++ map member_in (map (placed s) (operations_by s.thread i x))
