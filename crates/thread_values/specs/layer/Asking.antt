-- What calls of the library do that ask for one action (UPC 7.2.2, 7.2.4).
use Rattle.std.specs.Prelude.{ℕ, ◌≡◌, Bool, true, false, List, Option}
use Rattle.block_layout.specs.declared.kind.Shape.{Shape}
use Rattle.block_layout.specs.Pointers.{null}
use Rattle.upc_values.specs.declared.scalar.Scalar.{Scalar}
use Rattle.upc_values.specs.declared.scalar.Value.{Value}
use Rattle.upc_values.specs.declared.action.Reply.{Reply}
use Rattle.upc_values.specs.declared.action.Reply.TheVariants as reply
use Rattle.upc_values.specs.declared.library.LibraryCall.{LibraryCall}
use Rattle.upc_values.specs.declared.library.LibraryCall.TheVariants as call
use Rattle.upc_values.specs.declared.scalar.Scalar.TheVariants.{Shared}
use Rattle.upc_values.specs.Scalars.{zero}
use Rattle.upc_values.specs.Expansion as expansion
use Rattle.upc_values.specs.Expansion.{Expansion}
use Rattle.upc_values.specs.LibraryCalls.{library_call, asks}
use Rattle.thread_steps.specs.layer.Ranges.{IsHeldScalar}
use Rattle.thread_values.specs.declared.library.LibraryStep.{LibraryStep}
use Rattle.thread_values.specs.declared.library.LibraryStep.TheVariants.{Nothing, Null, Fails, Asks}

-- The library call that a step stands for: one that gives a value, fails, or asks for one action.
abbrev pub expansion_of : LibraryStep → Expansion Scalar
expansion_of Nothing = expansion.Gives zero
expansion_of Null = expansion.Gives (Shared null)
expansion_of (Fails code) = expansion.Fails code
expansion_of (Asks action) = asks action

-- The call of the library asks for one action at most (UPC 7.2.2, 7.2.4).
abbrev pub asks_once : LibraryCall → Bool
asks_once call.GlobalAlloc = true
asks_once call.AllAlloc = true
asks_once call.Alloc = true
asks_once call.Free = true
asks_once call.AllFree = true
asks_once call.GlobalLockAlloc = true
asks_once call.AllLockAlloc = true
asks_once call.Lock = true
asks_once call.LockAttempt = true
asks_once call.Unlock = true
asks_once call.LockFree = true
asks_once call.AllLockFree = true
asks_once c = false

-- A call does what the step says, on a thread of a program, for elements of a shape.
abbrev pub DoesSoThere : (threads : ℕ) → List Shape → (me shape : ℕ) → LibraryCall → List Value → LibraryStep → Type 0
DoesSoThere threads shapes me shape call args step =
    (private : ℕ → Option Shape) → library_call threads shapes me private call shape args ≡ expansion_of step

-- The value of a reply, if it has one, is in the range of those that a thread can have.
abbrev pub IsHeldReply : (threads : ℕ) → List Shape → Reply → Type 0
IsHeldReply threads shapes (reply.Value v) = IsHeldScalar threads shapes v
IsHeldReply threads shapes r = Unit {0}
