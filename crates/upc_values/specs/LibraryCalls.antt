-- What each call of the library does on the calling thread, and the value that it gives (UPC 7.2, 7.3).
use Rattle.std.specs.Prelude.{ℕ, ◌*◌, ◌==◌, nat_le, ℤ, pos, ◌+ℤ◌, unsigned_abs, not, ◌&&◌, ◌||◌, if◌then◌else◌, List}
use Rattle.std.specs.Prelude.{cond, [], ◌∷◌, Option, Some, None, slice_get}
use Rattle.std.specs.List.{filter_map}
use Rattle.block_layout.specs.declared.place.ObjectRef.{ObjectRef}
use Rattle.block_layout.specs.declared.place.LocalPtr.TheVariants as local
use Rattle.block_layout.specs.declared.kind.Kind.TheVariants as kind
use Rattle.block_layout.specs.declared.kind.Shape.{Shape}
use Rattle.block_layout.specs.declared.run_error.TheConstants.{NULL_ACCESS, CELL_TYPE, LIBRARY_ARGS}
use Rattle.block_layout.specs.Pieces.{piece_of}
use Rattle.block_layout.specs.Pointers.{null, is_null}
use Rattle.integers.specs.Integers.{converted}
use Rattle.integers.specs.Operators.{truth}
use Rattle.upc_values.specs.declared.scalar.Scalar.{Scalar}
use Rattle.upc_values.specs.declared.scalar.Scalar.TheVariants.{Int, Shared, Lock}
use Rattle.upc_values.specs.declared.scalar.Value.{Value}
use Rattle.upc_values.specs.declared.scalar.Value.TheVariants as value
use Rattle.upc_values.specs.declared.action.Action.{Action}
use Rattle.upc_values.specs.declared.action.Action.TheVariants as act
use Rattle.upc_values.specs.declared.action.Reply.{Reply}
use Rattle.upc_values.specs.declared.action.Reply.TheVariants as reply
use Rattle.upc_values.specs.declared.library.ElementKind.{ElementKind}
use Rattle.upc_values.specs.declared.library.ElementKind.TheVariants as element
use Rattle.upc_values.specs.declared.library.LibraryCall.{LibraryCall}
use Rattle.upc_values.specs.declared.library.LibraryCall.TheVariants as call
use Rattle.upc_values.specs.Scalars.{zero}
use Rattle.upc_values.specs.Formed.{is_whole}
use Rattle.upc_values.specs.Expansion.{Expansion, Gives, Fails, Asks, bind, refused_by}
use Rattle.upc_values.specs.Copying.{Area, Nowhere, In_shared, In_private, copy, set}
use Rattle.upc_values.specs.Expansions.{is_large, collective}

-- A number as a call gives it where its result is a size_t.
abbrev pub as_size : ℤ → Scalar
as_size v = Int (converted kind.ULong v)

-- What a call gives by the reply of its last action: the value, a flag as 1 or 0, or the run error of a refusal. A call
-- without a result gives 0, which nothing uses.
abbrev pub given_by : Reply → Expansion Scalar
given_by reply.Done = Gives zero
given_by (reply.Value v) = Gives v
given_by (reply.Flag b) = Gives (Int (converted kind.Int (truth b)))
given_by (reply.Refused c) = Fails c

-- One action, whose reply gives the value.
abbrev pub asks : Action → Expansion Scalar
asks a = Asks a given_by

-- A call that gives no value gives 0, which nothing uses.
abbrev pub gives_zero : Expansion (Unit {0}) → Expansion Scalar
gives_zero x = bind x (λ u. Gives zero)

-- An object of so many bytes with this block in bytes, 0 being indefinite, that begins on thread 0.
abbrev pub laid_out : ℕ → ℕ → ObjectRef
laid_out total block = record { number = 0; total = total; block = block; home = 0; shape = 0; base = 0 }

-- A call on a lock that is not null; on null it is run error 4 (UPC 7.2.4).
abbrev pub with_lock : ℕ → Expansion Scalar → Expansion Scalar
with_lock l go = refused_by ((l == 0, NULL_ACCESS) ∷ []) go

-- Where a value leads as a pointer: a pointer-to-local into a private object, or into shared space (UPC 6.4.3); null,
-- and what is no pointer, lead nowhere.
abbrev pub area_of : Value → Area
area_of (value.Scalar (Shared p)) = cond (is_null p) Nowhere (In_shared p)
area_of (value.Local (local.Private object offset)) = In_private object offset
area_of (value.Local (local.Shared object thread offset)) =
    In_shared (record { object = object; thread = thread; phase = 0; offset = offset })
area_of v = Nowhere

-- The scalars among some values, in order; a pointer-to-local is none.
abbrev pub scalars : List Value → List Scalar
scalars vs = filter_map (λ v. elim v [ value.Scalar s ↦ Some s | value.Local p ↦ None ]) vs

-- The number of an element type among C UC S US I UI L UL, from 0 (UPC 7.3.2.1).
abbrev pub element_number : ElementKind → ℕ
element_number element.Char = 0
element_number element.UnsignedChar = 1
element_number element.Short = 2
element_number element.UnsignedShort = 3
element_number element.Int = 4
element_number element.UnsignedInt = 5
element_number element.Long = 6
element_number element.UnsignedLong = 7

-- What all threads meet with in a reduction: its arguments, with the number of the element type in place of the
-- function (UPC 7.3.2.1).
abbrev pub with_element : ElementKind → List Value → List Value
with_element k (dst ∷ src ∷ op ∷ n ∷ blk ∷ function ∷ f ∷ []) =
    dst ∷ src ∷ op ∷ n ∷ blk ∷ value.Scalar (Int (pos (element_number k))) ∷ f ∷ []
with_element k args = args

-- The number of a collective call, in which all threads meet; no other call has one (UPC 7.2.2, 7.2.4, 7.3).
abbrev pub meet_number : LibraryCall → Option ℕ
meet_number call.AllAlloc = Some 1
meet_number call.AllLockAlloc = Some 2
meet_number call.AllFree = Some 3
meet_number call.AllLockFree = Some 4
meet_number call.Broadcast = Some 5
meet_number call.Scatter = Some 6
meet_number call.Gather = Some 7
meet_number call.GatherAll = Some 8
meet_number call.Exchange = Some 9
meet_number call.Permute = Some 10
meet_number (call.Reduce k) = Some 11
meet_number (call.PrefixReduce k) = Some 12
meet_number c = None

-- Thread `me` of so many, with the program's shapes, and the shapes, by number, of its private objects that have not
-- ended.
module _ (threads : ℕ) (shapes : List Shape) (me : ℕ) (private : ℕ → Option Shape) where
  -- What upc_affinitysize gives: the bytes that lie on a thread, of an object of `total` bytes in blocks of `nbytes`
  -- (UPC 7.2.3).
  abbrev pub affinity_size : (total nbytes thread : ℕ) → Expansion Scalar
  affinity_size total nbytes thread =
      refused_by ((nat_le threads thread || (is_large total || is_large nbytes), LIBRARY_ARGS) ∷ [])
      (Gives (as_size (pos (piece_of (laid_out total nbytes) thread threads))))

  -- An allocation of at least one byte is of whole elements of this shape; one that is not is run error 18.
  abbrev pub in_elements : (shape nblocks nbytes : ℕ) → Expansion Scalar → Expansion Scalar
  in_elements shape nblocks nbytes go =
      refused_by
      ((not (nblocks * nbytes == 0) && not (is_whole (slice_get shapes shape) nbytes), CELL_TYPE) ∷ [])
      go

  -- One Alloc of whole elements; an allocation of no byte gives null without it (UPC 7.2.2).
  abbrev pub allocation : (home : Option ℕ) (shape nblocks nbytes : ℕ) → Expansion Scalar
  allocation home shape nblocks nbytes =
      if nblocks * nbytes == 0
      then Gives (Shared null)
      else in_elements shape nblocks nbytes (asks (act.Alloc nblocks nbytes home shape))

  -- What upc_all_alloc does: all threads meet, for no byte too, and get one array of `nblocks` blocks of `nbytes` bytes
  -- each (UPC 7.2.2).
  abbrev pub all_alloc : (shape nblocks nbytes : ℕ) → Expansion Scalar
  all_alloc shape nblocks nbytes =
      in_elements shape nblocks nbytes
      (asks (act.Meet 1 (Int (pos nblocks) ∷ Int (pos nbytes) ∷ Int (pos shape) ∷ [])))

  -- The shape of the private object in which an area lies.
  abbrev pub private_shape : Area → Option Shape
  private_shape (In_private object offset) = private object
  private_shape a = None

  -- What the collective calls 5 to 12 do, upc_all_broadcast to upc_all_prefix_reduce (UPC 7.3).
  abbrev pub together : (c : ℕ) → List Value → Expansion Scalar
  together c args = gives_zero (collective threads shapes me c (scalars args))

  -- What a call does with these arguments, each converted to its parameter's type; an allocation makes elements of the
  -- shape with this number. A printf, which has a format, and upc_global_exit, which ends the thread, are not among
  -- them (UPC 7.2, 7.3).
  abbrev pub library_call : LibraryCall → (shape : ℕ) → List Value → Expansion Scalar
  -- upc_threadof: the thread of a pointer-to-shared, 0 for null, which has zeros throughout (UPC 7.2.3)
  library_call call.ThreadOf shape (value.Scalar (Shared p) ∷ []) = Gives (as_size (pos p.thread))
  -- upc_phaseof: the phase of a pointer-to-shared, 0 for null (UPC 7.2.3)
  library_call call.PhaseOf shape (value.Scalar (Shared p) ∷ []) = Gives (as_size (pos p.phase))
  -- upc_addrfield: the bytes of all objects with lower numbers, and the offset; 0 for null (UPC 7.2.3)
  library_call call.AddressField shape (value.Scalar (Shared p) ∷ []) = Gives (as_size (pos p.object.base +ℤ p.offset))
  library_call call.AffinitySize shape (value.Scalar (Int n) ∷ value.Scalar (Int b) ∷ value.Scalar (Int t) ∷ []) =
      affinity_size (unsigned_abs n) (unsigned_abs b) (unsigned_abs t)
  -- upc_global_alloc: it makes an array of n blocks of b bytes each (UPC 7.2.2)
  library_call call.GlobalAlloc shape (value.Scalar (Int n) ∷ value.Scalar (Int b) ∷ []) =
      allocation None shape (unsigned_abs n) (unsigned_abs b)
  library_call call.AllAlloc shape (value.Scalar (Int n) ∷ value.Scalar (Int b) ∷ []) =
      all_alloc shape (unsigned_abs n) (unsigned_abs b)
  -- upc_alloc: it makes b bytes on the calling thread, of indefinite block (UPC 7.2.2)
  library_call call.Alloc shape (value.Scalar (Int b) ∷ []) = allocation (Some me) shape 1 (unsigned_abs b)
  -- upc_free: one Free; on null nothing (UPC 7.2.2)
  library_call call.Free shape (value.Scalar (Shared p) ∷ []) = if is_null p then Gives zero else asks (act.Free p)
  -- upc_all_free: all threads meet, on null too (UPC 7.2.2)
  library_call call.AllFree shape (value.Scalar (Shared p) ∷ []) = asks (act.Meet 3 (Shared p ∷ []))
  -- upc_global_lock_alloc: it makes one new lock (UPC 7.2.4)
  library_call call.GlobalLockAlloc shape [] = asks act.LockMake
  -- upc_all_lock_alloc: all threads meet, and get one lock (UPC 7.2.4)
  library_call call.AllLockAlloc shape [] = asks (act.Meet 2 [])
  -- upc_lock: one Lock (UPC 7.2.4)
  library_call call.Lock shape (value.Scalar (Lock l) ∷ []) = with_lock l (asks (act.Lock l))
  -- upc_lock_attempt: one Attempt; it gives 1 where the lock was taken, else 0 (UPC 7.2.4)
  library_call call.LockAttempt shape (value.Scalar (Lock l) ∷ []) = with_lock l (asks (act.Attempt l))
  -- upc_unlock: one Unlock (UPC 7.2.4)
  library_call call.Unlock shape (value.Scalar (Lock l) ∷ []) = with_lock l (asks (act.Unlock l))
  -- upc_lock_free: one LockFree; on null nothing (UPC 7.2.4)
  library_call call.LockFree shape (value.Scalar (Lock l) ∷ []) = if l == 0 then Gives zero else asks (act.LockFree l)
  -- upc_all_lock_free: all threads meet, on null too (UPC 7.2.4)
  library_call call.AllLockFree shape (value.Scalar (Lock l) ∷ []) = asks (act.Meet 4 (Lock l ∷ []))
  -- upc_memcpy: it copies bytes of a shared object to a shared object (UPC 7.2.5)
  library_call call.Memcpy shape (dst ∷ src ∷ value.Scalar (Int n) ∷ []) =
      gives_zero (copy threads shapes None (area_of dst) (area_of src) (unsigned_abs n))
  -- upc_memget: it copies bytes of a shared object to a private one (UPC 7.2.5)
  library_call call.Memget shape (dst ∷ src ∷ value.Scalar (Int n) ∷ []) =
      gives_zero (copy threads shapes (private_shape (area_of dst)) (area_of dst) (area_of src) (unsigned_abs n))
  -- upc_memput: it copies bytes of a private object to a shared one (UPC 7.2.5)
  library_call call.Memput shape (dst ∷ src ∷ value.Scalar (Int n) ∷ []) =
      gives_zero (copy threads shapes (private_shape (area_of src)) (area_of dst) (area_of src) (unsigned_abs n))
  -- upc_memset: it sets bytes of a shared object to c as an unsigned char (UPC 7.2.5)
  library_call call.Memset shape (dst ∷ value.Scalar (Int c) ∷ value.Scalar (Int n) ∷ []) =
      gives_zero (set threads shapes None (area_of dst) (unsigned_abs (converted kind.UChar c)) (unsigned_abs n))
  -- the collective calls 5 to 12, upc_all_broadcast to upc_all_prefix_reduce (UPC 7.3)
  library_call call.Broadcast shape args = together 5 args
  library_call call.Scatter shape args = together 6 args
  library_call call.Gather shape args = together 7 args
  library_call call.GatherAll shape args = together 8 args
  library_call call.Exchange shape args = together 9 args
  library_call call.Permute shape args = together 10 args
  library_call (call.Reduce k) shape args = together 11 (with_element k args)
  library_call (call.PrefixReduce k) shape args = together 12 (with_element k args)
  library_call c shape args = Gives zero
