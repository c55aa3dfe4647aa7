-- What the private functions of this crate say of their values.
use Rattle.std.specs.Prelude.{ℕ, ◌≡◌, ◌==◌, ◌||◌, Bool, true, false, List, [], ◌∷◌, Option, Some, None, Result}
use Rattle.std.specs.Prelude.{unsigned_abs}
use Rattle.block_layout.specs.declared.kind.Shape.{Shape}
use Rattle.block_layout.specs.declared.place.LocalPtr.{LocalPtr}
use Rattle.block_layout.specs.declared.place.LocalPtr.TheVariants as local
use Rattle.block_layout.specs.Places.{InRange}
use Rattle.upc_values.specs.declared.scalar.Scalar.TheVariants.{Int}
use Rattle.upc_values.specs.declared.scalar.Value.{Value}
use Rattle.upc_values.specs.declared.scalar.Value.TheVariants as value
use Rattle.upc_values.specs.declared.action.Reply.{Reply}
use Rattle.upc_values.specs.declared.action.Reply.TheVariants as reply
use Rattle.upc_values.specs.Calls.{Call, Allocates, Makes_lock}
use Rattle.upc_values.specs.declared.library.LibraryCall.{LibraryCall}
use Rattle.upc_values.specs.LibraryCalls.{library_call}
use Rattle.thread_values.specs.declared.library.LibraryStep.{LibraryStep}
use Rattle.thread_values.specs.layer.Results.{given_at_once}
use Rattle.thread_values.specs.layer.Asking.{expansion_of}

-- Whether a value is an integer.
abbrev pub is_integer : Value → Bool
is_integer (value.Scalar (Int v)) = true
is_integer v = false

-- A call gives this at once, whatever the shapes of the program, the thread and its private objects.
abbrev pub IsGiven : (threads : ℕ) → LibraryCall → List Value → Result Value ℕ → Type 0
IsGiven threads call args r =
    (shapes : List Shape) (me : ℕ) (private : ℕ → Option Shape) (shape : ℕ)
    → Some r ≡ given_at_once (library_call threads shapes me private call shape args)

-- The offset of a pointer-to-local, if it has one, lies in range.
abbrev pub IsNear : LocalPtr → Type 0
IsNear local.Null = Unit {0}
IsNear (local.Private object offset) = InRange offset
IsNear (local.Shared object thread offset) = InRange offset

-- A call does what the step says, whatever the program, the thread and its private objects.
abbrev pub DoesSo : LibraryCall → List Value → LibraryStep → Type 0
DoesSo call args step =
    (threads : ℕ) (shapes : List Shape) (me : ℕ) (private : ℕ → Option Shape) (shape : ℕ)
    → library_call threads shapes me private call shape args ≡ expansion_of step

-- All threads meet in upc_all_alloc (UPC 7.2.2).
abbrev pub is_allocating : Call → Bool
is_allocating (Allocates nblocks nbytes shape) = true
is_allocating call = false

-- All threads meet in upc_all_lock_alloc (UPC 7.2.4).
abbrev pub is_lock_making : Call → Bool
is_lock_making Makes_lock = true
is_lock_making call = false

-- A reply is Done, or one of two refusals.
abbrev pub done_or : (first second : ℕ) → Reply → Bool
done_or first second reply.Done = true
done_or first second (reply.Refused code) = (code == first) || (code == second)
done_or first second r = false

-- The size that an argument gives, if it is an integer.
abbrev pub size_of : Value → Option ℕ
size_of (value.Scalar (Int v)) = Some (unsigned_abs v)
size_of v = None

-- Two sizes, if both are there.
abbrev pub both_sizes : Option ℕ → Option ℕ → Option (ℕ × ℕ)
both_sizes (Some n) (Some b) = Some (n, b)
both_sizes n b = None

-- The sizes that a list of two arguments gives, if both are integers.
abbrev pub two_sizes : List Value → Option (ℕ × ℕ)
two_sizes (n ∷ b ∷ []) = both_sizes (size_of n) (size_of b)
two_sizes args = None

-- The size that a list of one argument gives, if that is an integer.
abbrev pub one_size : List Value → Option ℕ
one_size (b ∷ []) = size_of b
one_size args = None
