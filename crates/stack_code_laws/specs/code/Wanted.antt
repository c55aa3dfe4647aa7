-- What a thread of code may want, whatever replies it was given, fitting or not.
use Rattle.std.specs.Prelude.{ℕ, ◌≡◌, ◌≢◌, ◌<◌, ◌*◌, ◌^◌, ◌⊎◌, Bool, true, false, List, [], ◌∷◌, ◌++◌, length, Option}
use Rattle.std.specs.Prelude.{Some, None, is_some, slice_get}
use Rattle.std.specs.List.{list_any}
use Rattle.block_layout.specs.declared.kind.Kind.{Kind}
use Rattle.block_layout.specs.declared.kind.Shape.{Shape}
use Rattle.block_layout.specs.declared.place.Loc.{Loc}
use Rattle.block_layout.specs.declared.place.ObjectRef.{ObjectRef}
use Rattle.block_layout.specs.Places.{InRange}
use Rattle.block_layout.specs.Pointers.{same_object}
use Rattle.upc_values.specs.declared.scalar.Scalar.{Scalar}
use Rattle.upc_values.specs.declared.scalar.Scalar.TheVariants as scalar
use Rattle.upc_values.specs.declared.scalar.Value.{Value}
use Rattle.upc_values.specs.declared.action.Action.{Action}
use Rattle.upc_values.specs.declared.action.Action.TheVariants as act
use Rattle.upc_values.specs.declared.action.Reply.{Reply}
use Rattle.upc_values.specs.declared.record.ToldEnd.TheVariants.{Wants, Misfit}
use Rattle.upc_values.specs.Lists.{Each}
use Rattle.upc_values.specs.Shapes.{cell_in, fits_kind}
use Rattle.upc_values.specs.Openings.{IsSharable}
use Rattle.upc_values.specs.Formed.{is_whole, is_home, fits}
use Rattle.upc_values.specs.Calls.{Call, Allocates, Other, call_of}
use Rattle.upc_values.specs.Expansion.{Expansion, Gives, Fails, Reads, Asks, Loads, Stores}
use Rattle.upc_values.specs.LibraryCalls.{library_call}
use Rattle.upc_values.specs.Outcomes.{Outcome}
use Rattle.thread_steps.specs.States.{Thread, State}
use Rattle.stack_code.specs.declared.instruction.ObjectWork.{ObjectWork}
use Rattle.stack_code.specs.declared.instruction.ObjectWork.TheVariants.{Load}
use Rattle.stack_code.specs.declared.instruction.ThreadWork.{ThreadWork}
use Rattle.stack_code.specs.declared.instruction.ThreadWork.TheVariants.{Library}
use Rattle.stack_code.specs.declared.instruction.Operation.{Operation}
use Rattle.stack_code.specs.declared.instruction.Operation.TheVariants as work
use Rattle.stack_code.specs.declared.instruction.Instr.{Instr}
use Rattle.stack_code.specs.layer.Codes.{Codes, thread_of, function_at}
use Rattle.stack_code.specs.layer.Kept.{IsCode}
use Rattle.stack_code.specs.layer.Names.{NamesOnly}
use Rattle.stack_code.specs.layer.Outcomes.{CodeMeans, beginning}
use Rattle.stack_code.specs.layer.Steps.{Spot, Conf, At, Halt, step, steps, youngest}
use Rattle.stack_code_laws.specs.code.Names.{objects_given, NamesGiven}
use Rattle.stack_code_laws.specs.code.Turns.{TakesTurns}

-- The function f gives what a thread of the code, with a budget of ticks, means on each list of replies, where the code
-- names no shared object but these, and its shared objects hold no pointers to private ones.
pub record IsThreadNaming (named : List ObjectRef) (codes : Codes) (thread budget : ℕ) (f : List Reply → Outcome)
    : Type 0 where
  pub code : IsCode codes
  pub sharable : Each IsSharable codes.shapes
  pub names : NamesOnly named codes
  pub number : thread < codes.threads
  pub means : (replies : List Reply) → CodeMeans codes thread budget replies (f replies)

-- ---- cells

-- A cell of this kind begins at the location: in the piece that a thread of the run has of one of these objects, whose
-- number the location has (UPC 6.5.1.1).
pub record IsCellAmong (objects : List ObjectRef) (threads : ℕ) (shapes : List Shape) (l : Loc) (k : Kind)
    : Type 0 where
  pub object : ObjectRef
  pub among : list_any (same_object object) objects ≡ true
  pub number : object.number ≡ l.object
  pub thread : l.thread < threads
  pub cell : cell_in threads shapes (Some object) l ≡ Some k

-- ---- what an instruction reads

--- A call of the library reads a cell of this kind at this location, on some answers to what it asked for before.
abbrev pub ReadsCell : {A : Type 0} → Expansion A → Kind → Loc → Type 0
ReadsCell (Gives v) k l = ⊥
ReadsCell (Fails code) k l = ⊥
ReadsCell (Reads at j after) k l = ((j ≡ k) × (at ≡ l)) ⊎ ((v : Scalar) × ReadsCell (after v) k l)
ReadsCell (Asks a after) k l = (r : Reply) × ReadsCell (after r) k l
ReadsCell (Loads p j after) k l = (v : Scalar) × ReadsCell (after v) k l
ReadsCell (Stores p j v after) k l = ReadsCell after k l

-- Work on objects reads cells of this kind: a load those of its own kind, target and block of pointers included (C99
-- 6.3.2.1).
abbrev pub LoadsKind : ObjectWork → Kind → Type 0
LoadsKind (Load access) k = access.kind ≡ k
LoadsKind w k = ⊥

-- What a thread does among the others reads a cell of this kind at this location, as the definition of a library call
-- has it for these operands (UPC 7.2.5, 7.3).
abbrev pub CallReads : Thread → ThreadWork → List Value → Kind → Loc → Type 0
CallReads τ (Library call shape n) operands k l =
    (private : ℕ → Option Shape)
    × ReadsCell (library_call τ.threads τ.shapes τ.number private call shape (youngest n operands)) k l
CallReads τ w operands k l = ⊥

-- An operation reads a cell of this kind at this location.
abbrev pub WorkReads : Thread → Operation → List Value → Kind → Loc → Type 0
WorkReads τ (work.Object w) operands k l = LoadsKind w k
WorkReads τ (work.Thread w) operands k l = CallReads τ w operands k l
WorkReads τ w operands k l = ⊥

-- An instruction reads a cell of this kind at this location; past its end a function reads none.
abbrev pub InstructionReads : Thread → Option Instr → List Value → Kind → Loc → Type 0
InstructionReads τ (Some i) operands k l = WorkReads τ i.does operands k l
InstructionReads τ None operands k l = ⊥

-- From here so many instructions lead to one at which the thread wants this read, and that instruction reads a cell of
-- this kind there.
pub record ReadsAs (τ : Thread) (functions : List (List Instr)) (from : Conf) (l : Loc) (strict : Bool) (k : Kind)
    : Type 0 where
  pub count : ℕ
  pub at : Spot
  pub given : List Value
  pub operands : List Value
  pub calls : List Spot
  pub before : State
  pub after : State
  pub leads : steps τ functions count from ≡ At at given operands calls before
  pub wants : step τ functions (At at given operands calls before) ≡ Halt (Wants (act.Read l strict)) after
  pub reads : InstructionReads τ (slice_get (function_at functions at.function) at.place) operands k l

-- ---- parts of an action

-- The scalars that an action hands over.
abbrev pub scalars_in : Action → List Scalar
scalars_in (act.Write s l v) = v ∷ []
scalars_in (act.Free p) = scalar.Shared p ∷ []
scalars_in (act.Meet c args) = args
scalars_in a = []

-- A pointer-to-shared has a thread of the run, and an offset in range (UPC 6.5.1.1).
abbrev pub IsPlaced : (threads : ℕ) → Scalar → Type 0
IsPlaced threads (scalar.Shared p) = (p.thread < threads) × InRange p.offset
IsPlaced threads v = Unit {0}

-- The lock that an action works on is not null (UPC 7.2.4).
abbrev pub HasLock : Action → Type 0
HasLock (act.Lock l) = l ≢ 0
HasLock (act.Attempt l) = l ≢ 0
HasLock (act.Unlock l) = l ≢ 0
HasLock (act.LockFree l) = l ≢ 0
HasLock a = Unit {0}

-- An allocation has numbers of 64 bits, and at least one byte, in whole elements of a shape of the program (UPC 7.2.2).
pub record IsAllocation (shapes : List Shape) (nblocks nbytes shape : ℕ) : Type 0 where
  pub count : nblocks < 2 ^ 64
  pub size : nbytes < 2 ^ 64
  pub some : nblocks * nbytes ≢ 0
  pub whole : is_whole (slice_get shapes shape) nbytes ≡ true

-- A collective call is one of the calls 1 to 12, with arguments of its parameters' types, each in the range of its
-- type; in an allocation the shape is one of the program, and what has a byte is of whole elements (UPC 7.2.2, 7.3).
abbrev pub IsCallOf : List Shape → Call → Type 0
IsCallOf shapes Other = ⊥
IsCallOf shapes (Allocates n b s) =
    (is_some (slice_get shapes s) ≡ true) × (n * b ≢ 0 → is_whole (slice_get shapes s) b ≡ true)
IsCallOf shapes call = Unit {0}

-- The numbers of an action are in their ranges: an allocation has at least one byte, in whole elements, and a home that
-- is a thread of the run, if it has one; a collective call is one of those that there are (UPC 7.2.2, 7.3).
abbrev pub HasRanges : (threads : ℕ) → List Shape → Action → Type 0
HasRanges threads shapes (act.Alloc n b home s) = IsAllocation shapes n b s × (is_home threads home ≡ true)
HasRanges threads shapes (act.Meet c args) = IsCallOf shapes (call_of c args)
HasRanges threads shapes a = Unit {0}

-- ---- what is wanted

-- A read is of a cell of this kind in one of these objects.
abbrev pub IsCellRead : List ObjectRef → (threads : ℕ) → List Shape → Loc → Option Kind → Type 0
IsCellRead objects threads shapes l (Some k) = IsCellAmong objects threads shapes l k
IsCellRead objects threads shapes l None = ⊥

-- The location of a read is a cell of this kind, and the location of a write a cell that the value fits, each in one of
-- these objects (UPC 6.5.1.1; C99 6.5.16).
abbrev pub LeadsToCell : List ObjectRef → (threads : ℕ) → List Shape → Option Kind → Action → Type 0
LeadsToCell objects threads shapes kind (act.Read l s) = IsCellRead objects threads shapes l kind
LeadsToCell objects threads shapes kind (act.Write s l v) =
    (k : Kind) × IsCellAmong objects threads shapes l k × (fits_kind v k ≡ true)
LeadsToCell objects threads shapes kind a = Unit {0}

-- A thread that comes from here wants a read of this location where its instruction reads a cell of this kind.
abbrev pub ReadsKind : Thread → List (List Instr) → Conf → Loc → (strict : Bool) → Option Kind → Type 0
ReadsKind τ functions from l strict (Some k) = ReadsAs τ functions from l strict k
ReadsKind τ functions from l strict None = ⊥

-- What is wanted is no read, or one where the instruction of the thread reads a cell of this kind.
abbrev pub IsReadAs : Thread → List (List Instr) → Conf → Option Kind → Action → Type 0
IsReadAs τ functions from kind (act.Read l s) = ReadsKind τ functions from l s kind
IsReadAs τ functions from kind a = Unit {0}

-- After these replies the thread wants an action. What it names is what its code names or one of these replies gave; it
-- leads to a cell, a read to one of the very kind that the instruction reads there; its numbers, and the places of its
-- pointers, are in range. A further reply that fits it, a read by that kind, adds it to the actions, and any other one
-- ends the thread there.
pub record IsWantedRightly (named : List ObjectRef) (codes : Codes) (thread budget : ℕ) (f : List Reply → Outcome)
    (rs : List Reply) (a : Action) : Type 0 where
  -- The kind of the cell that is read, where the action is a read.
  pub kind : Option Kind
  pub names : NamesGiven named rs a
  pub lock : HasLock a
  pub cell : LeadsToCell (objects_given named rs) codes.threads codes.shapes kind a
  pub read : IsReadAs (thread_of codes thread budget) codes.functions (beginning codes rs) kind a
  pub pointers : Each (IsPlaced codes.threads) (scalars_in a)
  pub ranges : HasRanges codes.threads codes.shapes a
  -- Each of the replies has answered one action.
  pub heard : length (f rs).actions ≡ length rs
  pub goes :
      (r : Reply) → fits codes.threads codes.shapes kind a r ≡ true
      → (f (rs ++ r ∷ [])).actions ≡ (f rs).actions ++ a ∷ []
  pub misfits :
      (r : Reply) → fits codes.threads codes.shapes kind a r ≡ false
      → ((f (rs ++ r ∷ [])).«end» ≡ Misfit (length rs)) × ((f (rs ++ r ∷ [])).actions ≡ (f rs).actions)

-- Whatever the thread was answered, it wants actions rightly, and its notifies and waits alternate, beginning with a
-- notify (UPC 6.6.1).
pub record AsksRightly (named : List ObjectRef) (codes : Codes) (thread budget : ℕ) (f : List Reply → Outcome)
    : Type 0 where
  pub wants :
      (rs : List Reply) (a : Action) → (f rs).«end» ≡ Wants a → IsWantedRightly named codes thread budget f rs a
  pub turns : (rs : List Reply) → TakesTurns (f rs)
