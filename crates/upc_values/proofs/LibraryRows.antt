-- Worked rows on the calls of the library, computed by the definitions themselves.
use Rattle.std.specs.Prelude.{◌≡◌, ℕ, ◌==◌, if◌then◌else◌, pos, negsuc, false, List, [], ◌∷◌, map, Option, Some, None}
use Rattle.std.proofs.Common.{refl}
use Rattle.block_layout.specs.declared.place.SharedPtr.{SharedPtr}
use Rattle.block_layout.specs.declared.place.LocalPtr.TheVariants as local
use Rattle.block_layout.specs.declared.kind.Kind.TheVariants as kind
use Rattle.block_layout.specs.declared.kind.Shape.{Shape}
use Rattle.block_layout.specs.Pointers.{null}
use Rattle.upc_values.specs.declared.scalar.Scalar.{Scalar}
use Rattle.upc_values.specs.declared.scalar.Scalar.TheVariants.{Int, Shared, Lock}
use Rattle.upc_values.specs.declared.scalar.Value.{Value}
use Rattle.upc_values.specs.declared.scalar.Value.TheVariants as value
use Rattle.upc_values.specs.declared.action.Action.TheVariants as act
use Rattle.upc_values.specs.declared.action.Reply.TheVariants as reply
use Rattle.upc_values.specs.declared.library.ElementKind.TheVariants as element
use Rattle.upc_values.specs.declared.library.LibraryCall.{LibraryCall}
use Rattle.upc_values.specs.declared.library.LibraryCall.TheVariants as call
use Rattle.upc_values.specs.Expansion.{Expansion, Gives, Fails, Asks, Stores, after_replies}
use Rattle.upc_values.specs.LibraryCalls.{library_call, given_by, gives_zero}
use Rattle.upc_values.specs.Expansions.{collective}

-- Elements of four bytes, each an int, and thread 1 of two, whose private object 7 is four of them.
abbrev ints : Shape
ints = record { size = 4; cells = (0, kind.Int) ∷ [] }

abbrev four_ints : Shape
four_ints = record { size = 16; cells = (0, kind.Int) ∷ (4, kind.Int) ∷ (8, kind.Int) ∷ (12, kind.Int) ∷ [] }

abbrev privates : ℕ → Option Shape
privates n = if n == 7 then Some four_ints else None

abbrev on_1 : LibraryCall → List Value → Expansion Scalar
on_1 c vs = library_call 2 (ints ∷ []) 1 privates c 0 vs

abbrev int : ℕ → Value
int n = value.Scalar (Int (pos n))

-- An int on thread 1, four bytes in, after 24 bytes of other objects.
abbrev p : SharedPtr
p =
    record {
      object = record { number = 2; total = 16; block = 4; home = 0; shape = 0; base = 24 };
      thread = 1;
      phase = 0;
      offset = pos 4;
    }

abbrev at_p : Value
at_p = value.Scalar (Shared p)

abbrev at_null : Value
at_null = value.Scalar (Shared null)

thread-of : on_1 call.ThreadOf (at_p ∷ []) ≡ Gives (Int (pos 1))
thread-of = refl

thread-of-null : on_1 call.ThreadOf (at_null ∷ []) ≡ Gives (Int (pos 0))
thread-of-null = refl

address-field : on_1 call.AddressField (at_p ∷ []) ≡ Gives (Int (pos 28))
address-field = refl

-- A field below 0 is a size_t like any other.
address-field-below :
    on_1 call.AddressField (value.Scalar (Shared (record p { offset = negsuc 24 })) ∷ [])
    ≡ Gives (Int (pos 18446744073709551615))
address-field-below = refl

-- Of 20 bytes in blocks of 8 thread 0 has those of blocks 0 and 2, thread 1 those of block 1.
affinity-size :
    map (λ t. on_1 call.AffinitySize (int 20 ∷ int 8 ∷ int t ∷ [])) (0 ∷ 1 ∷ [])
    ≡ Gives (Int (pos 12)) ∷ Gives (Int (pos 8)) ∷ []
affinity-size = refl

-- With an indefinite block all lie on thread 0.
affinity-size-indefinite : on_1 call.AffinitySize (int 20 ∷ int 0 ∷ int 0 ∷ []) ≡ Gives (Int (pos 20))
affinity-size-indefinite = refl

affinity-size-thread : on_1 call.AffinitySize (int 20 ∷ int 8 ∷ int 2 ∷ []) ≡ Fails 22
affinity-size-thread = refl

affinity-size-large : on_1 call.AffinitySize (int 16777217 ∷ int 8 ∷ int 0 ∷ []) ≡ Fails 22
affinity-size-large = refl

-- Allocations: of whole elements, of no byte, and of a part of an element.
global-alloc : on_1 call.GlobalAlloc (int 3 ∷ int 8 ∷ []) ≡ Asks (act.Alloc 3 8 None 0) given_by
global-alloc = refl

global-alloc-none : on_1 call.GlobalAlloc (int 0 ∷ int 3 ∷ []) ≡ Gives (Shared null)
global-alloc-none = refl

global-alloc-part : on_1 call.GlobalAlloc (int 1 ∷ int 6 ∷ []) ≡ Fails 18
global-alloc-part = refl

all-alloc :
    on_1 call.AllAlloc (int 3 ∷ int 8 ∷ [])
    ≡ Asks (act.Meet 1 (Int (pos 3) ∷ Int (pos 8) ∷ Int (pos 0) ∷ [])) given_by
all-alloc = refl

all-alloc-none :
    on_1 call.AllAlloc (int 3 ∷ int 0 ∷ [])
    ≡ Asks (act.Meet 1 (Int (pos 3) ∷ Int (pos 0) ∷ Int (pos 0) ∷ [])) given_by
all-alloc-none = refl

all-alloc-part : on_1 call.AllAlloc (int 1 ∷ int 6 ∷ []) ≡ Fails 18
all-alloc-part = refl

alloc : on_1 call.Alloc (int 8 ∷ []) ≡ Asks (act.Alloc 1 8 (Some 1) 0) given_by
alloc = refl

alloc-refused : after_replies (on_1 call.Alloc (int 8 ∷ [])) (reply.Refused 21 ∷ []) ≡ Fails 21
alloc-refused = refl

-- Frees and locks: null is freed without an action, and is no lock.
free-null : on_1 call.Free (at_null ∷ []) ≡ Gives (Int (pos 0))
free-null = refl

free-at : on_1 call.Free (at_p ∷ []) ≡ Asks (act.Free p) given_by
free-at = refl

lock-null : on_1 call.Lock (value.Scalar (Lock 0) ∷ []) ≡ Fails 4
lock-null = refl

attempt-taken :
    after_replies (on_1 call.LockAttempt (value.Scalar (Lock 3) ∷ [])) (reply.Flag false ∷ [])
    ≡ Gives (Int (pos 0))
attempt-taken = refl

lock-free-null : on_1 call.LockFree (value.Scalar (Lock 0) ∷ []) ≡ Gives (Int (pos 0))
lock-free-null = refl

all-lock-free-null :
    on_1 call.AllLockFree (value.Scalar (Lock 0) ∷ [])
    ≡ Asks (act.Meet 4 (Lock 0 ∷ [])) given_by
all-lock-free-null = refl

-- upc_memget of one int into the second of a private object's.
memget :
    after_replies (on_1 call.Memget (value.Local (local.Private 7 (pos 4)) ∷ at_p ∷ int 4 ∷ [])) (reply.Value (Int (pos 9)) ∷ [])
    ≡ Stores (local.Private 7 (pos 4)) kind.Int (Int (pos 9)) (Gives (Int (pos 0)))
memget = refl

memget-ended : on_1 call.Memget (value.Local (local.Private 6 (pos 4)) ∷ at_p ∷ int 4 ∷ []) ≡ Fails 6
memget-ended = refl

-- upc_memset takes the low byte of its int.
memset :
    on_1 call.Memset (at_p ∷ value.Scalar (Int (negsuc 254)) ∷ int 4 ∷ [])
    ≡ on_1 call.Memset (at_p ∷ int 1 ∷ int 4 ∷ [])
memset = refl

-- A reduction is call 11, with the number of its element type in place of the function.
reduce :
    on_1 (call.Reduce element.UnsignedInt) (at_p ∷ at_p ∷ int 1 ∷ int 1 ∷ int 0 ∷ int 0 ∷ int 9 ∷ [])
    ≡ gives_zero (collective 2 (ints ∷ []) 1 11
    (Shared p ∷ Shared p ∷ Int (pos 1) ∷ Int (pos 1) ∷ Int (pos 0) ∷ Int (pos 5) ∷ Int (pos 9) ∷ []))
reduce = refl
