-- Parts of definitions that code and proofs speak of by a name of their own.
use Rattle.std.specs.Prelude.{ℕ, ℤ, pos, Bool, false, cond, List, map, Option, Some, None, Result, Ok, Err}
use Rattle.std.specs.List.{list_any}
use Rattle.std.specs.Ordering.{int_eq}
use Rattle.block_layout.specs.declared.place.SharedPtr.{SharedPtr}
use Rattle.block_layout.specs.declared.place.LocalPtr.{LocalPtr}
use Rattle.block_layout.specs.declared.place.LocalPtr.TheVariants.{Null, Private, Shared}
use Rattle.block_layout.specs.declared.kind.Kind.{Kind}
use Rattle.block_layout.specs.declared.kind.Shape.{Shape}
use Rattle.block_layout.specs.Pointers.{is_null}
use Rattle.block_layout.specs.Shapes.{kind_size, same_kind}
use Rattle.integers.specs.Integers.{converted}
use Rattle.upc_values.specs.declared.scalar.Scalar.{Scalar}
use Rattle.upc_values.specs.declared.scalar.Scalar.TheVariants.{Int}
use Rattle.upc_values.specs.declared.action.Action.{Action}
use Rattle.upc_values.specs.declared.action.Action.TheVariants as act
use Rattle.upc_values.specs.declared.action.Reply.{Reply}
use Rattle.upc_values.specs.declared.action.Reply.TheVariants.{Refused}
use Rattle.upc_values.specs.declared.journal.Entry.{Entry}
use Rattle.upc_values.specs.Calls.{Way, Call, Copies, Other}
use Rattle.upc_values.specs.Copying.{Area, Nowhere, In_shared, In_private}
use Rattle.upc_values.specs.Expansion.{Expansion, Fails, nothing}
use Rattle.upc_values.specs.Expansions as expansions
use Rattle.upc_values.specs.History.{objects}
use Rattle.upc_values.specs.Openings.{Opening, cell_of}
use Rattle.upc_values.specs.Reductions.{element_kind}
use Rattle.upc_values.specs.Views.{element, from_phase_0, with_block, is_within, leaves_piece}

-- The collective call that copies in this way; without a way there is none.
abbrev pub copies : SharedPtr → SharedPtr → ℕ → ℤ → Option Way → Call
copies dst src n f (Some w) = Copies w dst src n f
copies dst src n f None = Other

-- A reply that refuses is its run error, and after any other the call goes on.
abbrev pub unless_refused : Reply → Expansion (Unit {0})
unless_refused (Refused c) = Fails c
unless_refused r = nothing

-- The kind of the cell that an action reads after a history, where it reads one.
abbrev pub kind_read : Opening → List Entry → Action → Option Kind
kind_read o es (act.Read l s) = cell_of o (objects o es) l
kind_read o es a = None

-- There is a cell, and it is of this kind.
abbrev pub is_kind : Kind → Option Kind → Bool
is_kind k (Some j) = same_kind k j
is_kind k None = false

-- A cell, by how many bytes after the first it begins and by its kind.
abbrev pub placed_kind : ℕ → Option Kind → Option (ℕ × Kind)
placed_kind i (Some k) = Some (i, k)
placed_kind i None = None

-- The result of an operator, converted back to the elements' kind (C99 6.3.1.3).
abbrev pub back_to : Kind → Result ℤ ℕ → Result ℤ ℕ
back_to k (Ok v) = Ok (converted k v)
back_to k (Err c) = Err c

-- Where a pointer-to-shared leads; null leads nowhere.
abbrev pub shared_area : SharedPtr → Area
shared_area p = cond (is_null p) Nowhere (In_shared p)

-- Where a pointer-to-local leads: into a private object, or into shared space (UPC 6.4.3); null leads nowhere.
abbrev pub local_area : LocalPtr → Area
local_area Null = Nowhere
local_area (Private object offset) = In_private object offset
local_area (Shared object thread offset) =
    In_shared (record { object = object; thread = thread; phase = 0; offset = offset })

-- There is an object of this shape, and the n bytes from the offset on lie inside it.
abbrev pub is_inside : ℤ → ℕ → Option Shape → Bool
is_inside offset n (Some s) = is_within offset n s.size
is_inside offset n None = false

module _ (threads : ℕ) (shapes : List Shape) (me : ℕ) where
  -- The n bytes from a pointer on do not all lie in the piece of its thread (UPC 6.5.1.1).
  abbrev pub outside : ℕ → SharedPtr → Bool
  outside n p = leaves_piece threads n p

  -- The integer that an element of a view is; what is none counts as 0.
  abbrev pub number_of : Scalar → ℤ
  number_of (Int v) = v
  number_of v = pos 0

  -- The elements of the permutation of upc_all_permute, one int for each thread (UPC 7.3).
  abbrev pub permutation : SharedPtr → List SharedPtr
  permutation perm = map (λ i. element (from_phase_0 perm) 1 4 threads i) (expansions.all_threads threads shapes me)

  -- The number of thread t is in the list.
  abbrev pub is_at : ℕ → List ℤ → Bool
  is_at t vs = list_any (λ v. int_eq v (pos t)) vs

  -- The pointer to element i of the view of a reduction's operand.
  abbrev pub operand : SharedPtr → ℕ → ℕ → ℕ → SharedPtr
  operand p blk k i = element (with_block p blk) blk (kind_size (element_kind k)) threads i
