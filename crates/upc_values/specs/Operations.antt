-- The accesses of actions, and the operations that UPC's memory model orders (UPC Appendix B).
use Rattle.std.specs.Prelude.{ℕ, Bool, true, false, List, [], ◌∷◌}
use Rattle.block_layout.specs.declared.place.Loc.{Loc}
use Rattle.upc_values.specs.declared.scalar.Scalar.{Scalar}
use Rattle.upc_values.specs.declared.action.Action.{Action}
use Rattle.upc_values.specs.declared.action.Action.TheVariants.{Read, Write, Fence, Beat, Notify, Wait, Lock, Attempt}
use Rattle.upc_values.specs.declared.action.Action.TheVariants.{Unlock, LockMake, LockFree, Alloc, Free, Meet, Print}
use Rattle.upc_values.specs.declared.action.Action.TheVariants.{Exit}
use Rattle.upc_values.specs.declared.action.Reply.{Reply}
use Rattle.upc_values.specs.declared.action.Reply.TheVariants.{Value, Flag, Refused}
use Rattle.upc_values.specs.declared.journal.Entry.{Entry}
use Rattle.upc_values.specs.Scalars.{zero}

-- What an action accesses: a location, read or written, or the one place of all implied strict accesses.
pub data Access : Type 0 where
  Nothing : Access
  Reads : (loc : Loc) (strict : Bool) (value : Scalar) → Access
  Writes : (loc : Loc) (strict : Bool) (value : Scalar) → Access
  Writes_sync : Access
  Reads_sync : Access
  Writes_and_reads_sync : Access

-- The accesses of an action with its reply; one that was refused has none.
abbrev pub access : Action → Reply → Access
access a (Refused c) = Nothing
access (Read l s) (Value v) = Reads l s v
access (Read l s) r = Nothing
access (Write s l v) r = Writes l s v
-- a fence is a strict write, then a strict read (UPC 6.6.1, Appendix B)
access Fence r = Writes_and_reads_sync
-- a notify is a strict write, a wait a strict read (UPC 6.6.1, Appendix B)
access (Notify m) r = Writes_sync
access (Wait m) r = Reads_sync
-- taking a lock is a strict read, letting it go a strict write (UPC 7.2.4, Appendix B)
access (Lock l) r = Reads_sync
access (Attempt l) (Flag true) = Reads_sync
access (Attempt l) r = Nothing
access (Unlock l) r = Writes_sync
-- all others have none
access Beat r = Nothing
access LockMake r = Nothing
access (LockFree l) r = Nothing
access (Alloc n b h s) r = Nothing
access (Free p) r = Nothing
access (Meet c x) r = Nothing
access (Print x) r = Nothing
access (Exit v) r = Nothing

-- Where an operation acts: at a location, or at the one place of all implied strict accesses.
pub data Place : Type 0 where
  Cell : (loc : Loc) → Place
  Sync : Place

-- A read or a write by an action of a thread (UPC Appendix B).
pub record Operation : Type 0 where
  pub thread : ℕ
  pub index : ℕ
  pub write : Bool
  pub strict : Bool
  pub place : Place
  pub value : Scalar

-- A read by action i of thread t.
abbrev pub read_at : ℕ → ℕ → Place → Bool → Scalar → Operation
read_at t i p s v = record { thread = t; index = i; write = false; strict = s; place = p; value = v }

-- A write by action i of thread t.
abbrev pub write_at : ℕ → ℕ → Place → Bool → Scalar → Operation
write_at t i p s v = record { thread = t; index = i; write = true; strict = s; place = p; value = v }

-- The operations of these accesses, by action i of thread t; the implied ones all have the value 0.
abbrev pub operations_by : ℕ → ℕ → Access → List Operation
operations_by t i Nothing = []
operations_by t i (Reads l s v) = read_at t i (Cell l) s v ∷ []
operations_by t i (Writes l s v) = write_at t i (Cell l) s v ∷ []
operations_by t i Writes_sync = write_at t i Sync true zero ∷ []
operations_by t i Reads_sync = read_at t i Sync true zero ∷ []
operations_by t i Writes_and_reads_sync = write_at t i Sync true zero ∷ read_at t i Sync true zero ∷ []

-- The operations of action i of thread t, with its reply.
abbrev pub accesses_of : ℕ → ℕ → Action → Reply → List Operation
accesses_of t i a r = operations_by t i (access a r)

-- The operations of an entry's own action.
abbrev pub accesses : Entry → List Operation
accesses e = accesses_of e.thread e.index e.action e.reply
