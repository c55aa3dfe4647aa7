-- How a thread's items reach the history through its write buffer of 64 places, and the operations that stand there in
-- the place of each entry (UPC Appendix B).
use Rattle.std.specs.Prelude.{ℕ, ◌+◌, ◌==◌, nat_lt, Bool, true, false, ◌&&◌, cond, List, [], ◌∷◌, ◌++◌, length, map}
use Rattle.std.specs.Prelude.{filter, Option, Some, None, is_some}
use Rattle.block_layout.specs.declared.place.Loc.{Loc}
use Rattle.upc_values.specs.declared.scalar.Scalar.{Scalar}
use Rattle.upc_values.specs.declared.action.Action.{Action}
use Rattle.upc_values.specs.declared.action.Action.TheVariants.{Read, Write, Print}
use Rattle.upc_values.specs.declared.action.Reply.{Reply}
use Rattle.upc_values.specs.declared.action.Reply.TheVariants.{Done, Value}
use Rattle.upc_values.specs.declared.record.Item.{Item}
use Rattle.upc_values.specs.declared.record.Item.TheVariants.{Did, Stall}
use Rattle.upc_values.specs.declared.journal.Entry.{Entry}
use Rattle.upc_values.specs.Scalars.{same_loc, same_scalar}
use Rattle.upc_values.specs.Operations.{Operation, accesses}

-- The entry of action i of thread t.
abbrev pub entry_of : ℕ → ℕ → Action → Reply → Entry
entry_of t i a r = record { thread = t; index = i; action = a; reply = r }

-- An entry, with the operations that stand in its place, in program order: its own, those of the writes combined into
-- it, and those of the reads that one of these writes has answered.
pub record Commit : Type 0 where
  pub entry : Entry
  pub operations : List Operation

-- An entry with its own operations.
abbrev pub commit_of : Entry → Commit
commit_of e = record { entry = e; operations = accesses e }

-- The entries of commits.
abbrev pub entries_in : List Commit → List Entry
entries_in cs = map (λ c. c.entry) cs

-- A walk over a thread's items: the number of the next action, what was emitted, the pending relaxed writes, oldest
-- first, and whether each relaxed write is Done and each read of a pending write has had its value.
pub record Walk : Type 0 where
  pub next : ℕ
  pub emitted : List Commit
  pub pending : List Commit
  pub agrees : Bool

-- The walk before the first item.
abbrev pub start : Walk
start = record { next = 0; emitted = []; pending = []; agrees = true }

-- All pending writes are emitted, in order.
abbrev pub emptied : Walk → Walk
emptied w = record { next = w.next; emitted = w.emitted ++ w.pending; pending = []; agrees = w.agrees }

-- The oldest pending write, if there is one, is emitted.
abbrev pub oldest_out : List Commit → Walk → Walk
oldest_out [] w = w
oldest_out (c ∷ cs) w = record { next = w.next; emitted = w.emitted ++ c ∷ []; pending = cs; agrees = w.agrees }

-- If 64 are pending, the oldest is emitted.
abbrev pub with_room : Walk → Walk
with_room w = cond (nat_lt (length w.pending) 64) w (oldest_out w.pending w)

-- The entry is emitted itself, with its own operations.
abbrev pub passed : Entry → Walk → Walk
passed e w =
    record { next = w.next + 1; emitted = w.emitted ++ commit_of e ∷ []; pending = w.pending; agrees = w.agrees }

-- The reply is Done, as that of a relaxed write is.
abbrev pub is_done : Reply → Bool
is_done Done = true
is_done r = false

-- The reply gives this value, as that of a read of a pending write does.
abbrev pub is_value : Scalar → Reply → Bool
is_value v (Value u) = same_scalar u v
is_value v r = false

-- The write becomes pending, as the last.
abbrev pub stored : Entry → Walk → Walk
stored e w = record {
  next = w.next + 1;
  emitted = w.emitted;
  pending = w.pending ++ commit_of e ∷ [];
  agrees = w.agrees && is_done e.reply;
}

-- What an action writes to the location, if it writes there.
abbrev pub written : Loc → Action → Option Scalar
written l (Write s k v) = cond (same_loc k l) (Some v) None
written l a = None

-- The first value, where there is one; else the second.
abbrev pub or_else : Option Scalar → Option Scalar → Option Scalar
or_else (Some v) o = Some v
or_else None o = o

-- What the last of the entries that writes the location writes there.
abbrev pub last_written : Loc → List Entry → Option Scalar
last_written l [] = None
last_written l (e ∷ es) = or_else (last_written l es) (written l e.action)

-- What the pending write of the location writes there.
abbrev pub pending_value : Loc → List Commit → Option Scalar
pending_value l cs = last_written l (entries_in cs)

-- The pending write of the location is changed.
abbrev pub changed : Loc → (Commit → Commit) → List Commit → List Commit
changed l f [] = []
changed l f (c ∷ cs) = cond (is_some (pending_value l cs)) (c ∷ changed l f cs) (f c ∷ cs)

-- The read of this entry is answered by the write, and stands with it.
abbrev pub with_read : Entry → Commit → Commit
with_read e c = record { entry = c.entry; operations = c.operations ++ accesses e }

-- The write is combined into that of this entry, which stands in its place.
abbrev pub combined : Entry → Commit → Commit
combined e c = record { entry = e; operations = c.operations ++ accesses e }

-- A relaxed write of a location: where a write of it is pending, that one is combined into this one; else this one
-- becomes pending, as the last, and of 64 the oldest is emitted.
abbrev pub put_pending : Loc → Entry → Option Scalar → Walk → Walk
put_pending l e None w = stored e (with_room w)
put_pending l e (Some v) w = record {
  next = w.next + 1;
  emitted = w.emitted;
  pending = changed l (combined e) w.pending;
  agrees = w.agrees && is_done e.reply;
}

-- A relaxed read of a location: where a write of it is pending, that one answers it, and nothing is emitted; else the
-- read itself is.
abbrev pub looked_up : Loc → Entry → Option Scalar → Walk → Walk
looked_up l e None w = passed e w
looked_up l e (Some v) w = record {
  next = w.next + 1;
  emitted = w.emitted;
  pending = changed l (with_read e) w.pending;
  agrees = w.agrees && is_value v e.reply;
}

-- One more action: a relaxed write goes into the buffer, a relaxed read looks there first, a Print is emitted alone,
-- and every other action empties the buffer before it.
abbrev pub gone : Entry → Action → Walk → Walk
gone e (Write false l v) w = put_pending l e (pending_value l w.pending) w
gone e (Read l false) w = looked_up l e (pending_value l w.pending) w
gone e (Print x) w = passed e w
gone e a w = passed e (emptied w)

-- One more item: a Stall empties the buffer.
abbrev pub stepped : ℕ → Walk → Item → Walk
stepped t w Stall = emptied w
stepped t w (Did a r) = gone (entry_of t w.next a r) a w

-- A walk that goes on over these items, one after another.
abbrev pub walked_from : ℕ → Walk → List Item → Walk
walked_from t w [] = w
walked_from t w (x ∷ xs) = walked_from t (stepped t w x) xs

-- A walk over these items from the first one on.
abbrev pub walked : ℕ → List Item → Walk
walked t items = walked_from t start items

-- A walk over all of a thread's items, which empties the buffer at the end.
abbrev pub drained : ℕ → List Item → Walk
drained t items = emptied (walked t items)

-- The entries that the items emit, each with the operations in its place.
abbrev pub commits : ℕ → List Item → List Commit
commits t items = (drained t items).emitted

-- The entries that the items emit, in order.
abbrev pub drain : ℕ → List Item → List Entry
drain t items = entries_in (commits t items)

-- The entries of one thread among some, in order.
abbrev pub entries_of : ℕ → List Entry → List Entry
entries_of t es = filter (λ e. e.thread == t) es
