-- Which element of an object a pointer-to-shared names, and the pointer some elements after it (UPC 6.4.2, 6.5.1.1).
use Rattle.std.specs.Prelude.{ℕ, zero, suc, ◌+◌, ◌*◌, ◌≡◌, ◌<◌, ◌==◌, ◌&&◌, Bool}
use Rattle.std.specs.Prelude.{ℤ, pos, ◌+ℤ◌, ◌-ℤ◌, ◌*ℤ◌, unsigned_abs}
use Rattle.block_layout.specs.declared.place.ObjectRef.{ObjectRef}
use Rattle.block_layout.specs.declared.place.SharedPtr.{SharedPtr}
use Rattle.std.specs.Ordering.{int_eq}
use Rattle.block_layout.specs.Places.{thread_at, phase_at, offset_at}
use Rattle.block_layout.specs.declared.place.Loc.{Loc}

-- The null pointer-to-shared, which has zeros throughout.
abbrev pub null : SharedPtr
null =
    record {
      object = record { number = 0; total = 0; block = 0; home = 0; shape = 0; base = 0 };
      thread = 0;
      phase = 0;
      offset = pos 0;
    }

-- The pointer-to-shared is null.
abbrev pub IsNull : SharedPtr → Type 0
IsNull p = p ≡ null

-- Whether two shared objects are equal in every number that they have.
abbrev pub same_object : ObjectRef → ObjectRef → Bool
same_object a b =
    a.number == b.number && a.total == b.total && a.block == b.block && a.home == b.home
    && a.shape == b.shape && a.base == b.base

-- Whether two pointers-to-shared are equal in object, thread, phase and offset.
abbrev pub same_pointer : SharedPtr → SharedPtr → Bool
same_pointer p q =
    same_object p.object q.object && p.thread == q.thread && p.phase == q.phase && int_eq p.offset q.offset

-- Whether two pointers-to-shared are equal as `p == q` compares them: they lead to the same byte of the same object,
-- whatever their phases (UPC 6.4.2).
abbrev pub same_target : SharedPtr → SharedPtr → Bool
same_target p q = same_object p.object q.object && p.thread == q.thread && int_eq p.offset q.offset

-- Whether a pointer-to-shared is null.
abbrev pub is_null : SharedPtr → Bool
is_null p = same_pointer p null

-- The phase of an element. With block 0, which is indefinite, each phase is 0.
abbrev pub element_phase : ℤ → ℕ → ℕ
element_phase e zero = 0
element_phase e (suc b) = phase_at e (suc b)

-- The byte offset of an element on its thread. With block 0 all elements follow one another there.
abbrev pub element_offset : ℤ → ℕ → ℕ → ℕ → ℤ
element_offset e zero size threads = e *ℤ pos size
element_offset e (suc b) size threads = offset_at e (suc b) size threads

-- A pointer to elements of this block and size stands for element e with shift d: thread and phase are the element's,
-- and the offset is the element's plus d. With block 0 the thread may be any; a pointer made from a declared array has
-- shift 0 (UPC 6.4.2, 6.5.1.1).
pub record StandsFor (p : SharedPtr) (e d : ℤ) (block size threads : ℕ) : Type 0 where
  pub thread : 0 < block → p.thread ≡ thread_at e block threads
  pub phase : p.phase ≡ element_phase e block
  pub offset : p.offset ≡ element_offset e block size threads +ℤ d

-- The location that a pointer names.
abbrev pub location : SharedPtr → Loc
location p = record { object = p.object.number; thread = p.thread; offset = unsigned_abs p.offset }

-- The element that a pointer stands for, counted from the first element of the row of blocks in which it lies.
abbrev pub element_in_row : SharedPtr → ℕ → ℕ
element_in_row p block = p.thread * block + p.phase

-- The bytes that lie on the pointer's thread before the row of blocks in which it lies.
abbrev pub row_offset : SharedPtr → ℕ → ℤ
row_offset p size = p.offset -ℤ pos (p.phase * size)

-- The pointer that lies i elements after p, whose offset may be out of range (UPC 6.4.2).
abbrev pub moved : SharedPtr → ℤ → ℕ → ℕ → ℕ → SharedPtr
moved p i zero size threads = record p { offset = p.offset +ℤ i *ℤ pos size }
moved p i (suc b) size threads =
    let e = pos (element_in_row p (suc b)) +ℤ i in
    record {
      object = p.object;
      thread = thread_at e (suc b) threads;
      phase = phase_at e (suc b);
      offset = offset_at e (suc b) size threads +ℤ row_offset p size;
    }
