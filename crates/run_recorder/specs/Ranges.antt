-- The numbers of a run lie in the ranges of their types.
use Rattle.std.specs.Prelude.{ℕ, ℤ, pos, negsuc, ◌≤◌, List, length, Option, Some, None}
use Rattle.hex.specs.Hex.{IsBytes}
use Rattle.block_layout.specs.declared.place.Loc.{Loc}
use Rattle.block_layout.specs.declared.place.ObjectRef.{ObjectRef}
use Rattle.block_layout.specs.declared.place.SharedPtr.{SharedPtr}
use Rattle.upc_text.specs.declared.place.Place.{Place}
use Rattle.upc_values.specs.declared.scalar.Scalar.{Scalar}
use Rattle.upc_values.specs.declared.scalar.Scalar.TheVariants as scalar
use Rattle.upc_values.specs.declared.scalar.Mark.{Mark}
use Rattle.upc_values.specs.declared.scalar.Mark.TheVariants as mark
use Rattle.upc_values.specs.declared.action.Action.{Action}
use Rattle.upc_values.specs.declared.action.Action.TheVariants as action
use Rattle.upc_values.specs.declared.action.Reply.{Reply}
use Rattle.upc_values.specs.declared.action.Reply.TheVariants as reply
use Rattle.upc_values.specs.declared.record.Item.{Item}
use Rattle.upc_values.specs.declared.record.Item.TheVariants as item
use Rattle.upc_values.specs.declared.record.End.{End}
use Rattle.upc_values.specs.declared.record.End.TheVariants as end
use Rattle.upc_values.specs.declared.journal.Entry.{Entry}
use Rattle.upc_values.specs.declared.journal.Strand.{Strand}
use Rattle.upc_values.specs.declared.journal.Journal.{Journal}
use Rattle.upc_values.specs.declared.order.Op.{Op}
use Rattle.upc_values.specs.declared.order.Orders.{Orders}
use Rattle.upc_values.specs.Lists.{Each}
use Rattle.run_recorder_parts.specs.Bounds.{most_u8, most_u32, most_u64, most_i32, most_i64, most_i128}

-- An integer is from - (most + 1) to most.
abbrev pub IsWithin : ℕ → ℤ → Type 0
IsWithin most (pos n) = n ≤ most
IsWithin most (negsuc n) = n ≤ most

-- The three numbers of a location are u32.
abbrev pub FitsLoc : Loc → Type 0
FitsLoc l = (l.object ≤ most_u32) × (l.thread ≤ most_u32) × (l.offset ≤ most_u32)

-- The six numbers of an object are u32.
pub record FitsObject (o : ObjectRef) : Type 0 where
  pub number : o.number ≤ most_u32
  pub total : o.total ≤ most_u32
  pub block : o.block ≤ most_u32
  pub home : o.home ≤ most_u32
  pub shape : o.shape ≤ most_u32
  pub base : o.base ≤ most_u32

-- The thread and the phase of a pointer-to-shared are u32, and its offset is an i64.
pub record FitsPointer (p : SharedPtr) : Type 0 where
  pub object : FitsObject p.object
  pub thread : p.thread ≤ most_u32
  pub phase : p.phase ≤ most_u32
  pub offset : IsWithin most_i64 p.offset

-- A scalar is an i128, a pointer-to-shared, or the u32 of a lock.
abbrev pub FitsScalar : Scalar → Type 0
FitsScalar (scalar.Int v) = IsWithin most_i128 v
FitsScalar (scalar.Shared p) = FitsPointer p
FitsScalar (scalar.Lock n) = n ≤ most_u32

-- The value of a mark is an i32.
abbrev pub FitsMark : Mark → Type 0
FitsMark (mark.Given v) = IsWithin most_i32 v
FitsMark m = Unit {0}

-- A home is a u32.
abbrev pub FitsHome : Option ℕ → Type 0
FitsHome None = Unit {0}
FitsHome (Some t) = t ≤ most_u32

-- The numbers of an action lie in the ranges of their types.
abbrev pub FitsAction : Action → Type 0
FitsAction (action.Read loc strict) = FitsLoc loc
FitsAction (action.Write strict loc value) = FitsLoc loc × FitsScalar value
FitsAction action.Fence = Unit {0}
FitsAction action.Beat = Unit {0}
FitsAction (action.Notify m) = FitsMark m
FitsAction (action.Wait m) = FitsMark m
FitsAction (action.Lock n) = n ≤ most_u32
FitsAction (action.Attempt n) = n ≤ most_u32
FitsAction (action.Unlock n) = n ≤ most_u32
FitsAction action.LockMake = Unit {0}
FitsAction (action.LockFree n) = n ≤ most_u32
FitsAction (action.Alloc nblocks nbytes home shape) =
    (nblocks ≤ most_u64) × (nbytes ≤ most_u64) × FitsHome home × (shape ≤ most_u32)
FitsAction (action.Free p) = FitsPointer p
FitsAction (action.Meet call args) = (call ≤ most_u8) × (length args ≤ most_u64) × Each FitsScalar args
FitsAction (action.Print bytes) = IsBytes bytes
FitsAction (action.Exit v) = IsWithin most_i32 v

-- A reply's value fits, and the number of a run error is a u8.
abbrev pub FitsReply : Reply → Type 0
FitsReply (reply.Value v) = FitsScalar v
FitsReply (reply.Refused c) = c ≤ most_u8
FitsReply r = Unit {0}

-- An item's action and reply fit.
abbrev pub FitsItem : Item → Type 0
FitsItem (item.Did a r) = FitsAction a × FitsReply r
FitsItem item.Stall = Unit {0}

-- A line and a column are u32.
abbrev pub FitsPlace : Place → Type 0
FitsPlace p = (p.line ≤ most_u32) × (p.column ≤ most_u32)

-- The numbers of an end lie in the ranges of their types.
abbrev pub FitsEnd : End → Type 0
FitsEnd (end.Ended v) = IsWithin most_i32 v
FitsEnd (end.Fault c p) = (c ≤ most_u8) × FitsPlace p
FitsEnd (end.Exit v) = IsWithin most_i32 v
FitsEnd (end.Deadlocked a) = FitsAction a
FitsEnd e = Unit {0}

-- The numbers of a strand lie in the ranges of their types.
pub record FitsStrand (s : Strand) : Type 0 where
  pub count : length s.items ≤ most_u64
  pub items : Each FitsItem s.items
  pub ticks : s.ticks ≤ most_u64
  pub end : FitsEnd s.end

-- The thread and the number of an entry are u32.
abbrev pub FitsEntry : Entry → Type 0
FitsEntry e = (e.thread ≤ most_u32) × (e.index ≤ most_u32)

-- The thread and the number of an operation are u32.
abbrev pub FitsOp : Op → Type 0
FitsOp o = (o.thread ≤ most_u32) × (o.index ≤ most_u32)

-- The count of an order is a u64, and its operations fit.
abbrev pub FitsOrder : List Op → Type 0
FitsOrder ops = (length ops ≤ most_u64) × Each FitsOp ops

-- The numbers of a run and of its orders lie in the ranges of their types.
pub record Fits (j : Journal) (o : Orders) : Type 0 where
  pub threads : j.threads ≤ most_u32
  pub budget : j.budget ≤ most_u64
  pub actions : j.actions ≤ most_u64
  pub strands : Each FitsStrand j.strands
  pub history : Each FitsEntry j.history
  pub strict : FitsOrder o.strict
  pub orders : Each FitsOrder o.threads
